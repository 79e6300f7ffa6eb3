-- What the lines of a text make, one after the other.
use Rattle.std.specs.Prelude.{◌≡◌, ℕ, ⊤, List, [], ◌∷◌, Option, Some, None, Result, Ok, Err}
use Rattle.scmi_board.specs.Lines.{Line}
use Rattle.scmi_board.specs.declared.text_error.TextError.{TextError}
use Rattle.scmi_board.specs.declared.text_error.TextError.TheVariants as errors

-- what each line, with its number, makes of a value, one after the other; else the number of the
-- first line that makes nothing of it
unfoldable pub after_each_line : {A : Type 0} → (A → Line → Option A) → A → List Line → Result A ℕ
after_each_line with_line value [] = Ok value
after_each_line with_line value (line ∷ lines) = elim (with_line value line) [
  | None ↦ Err line.number
  | Some next ↦ after_each_line with_line next lines
]

-- the same of the lines' texts alone
abbrev pub after_lines : {A : Type 0} → (A → List ℕ → Option A) → A → List Line → Result A ℕ
after_lines with_line value lines =
    after_each_line (λ so_far line. with_line so_far line.text) value lines

-- a reader of scripts fails so, if the line of this number is not of a script, unless memory is
-- refused
abbrev pub FailsScript : {Y : Type 0} → TextError → Result Y ℕ → Type 0
FailsScript (errors.Board line) there = ⊥
FailsScript (errors.Script line) there = there ≡ Err line
FailsScript errors.Memory there = ⊤

-- what it gives, seen by view, is what is there
abbrev pub GivesScript : {X Y : Type 0} → (X → Y) → Result X TextError → Result Y ℕ → Type 0
GivesScript view (Ok value) there = there ≡ Ok (view value)
GivesScript view (Err error) there = FailsScript error there
