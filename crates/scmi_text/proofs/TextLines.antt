-- The lines of a text, one after the other.
use Rattle.std.proofs.Common.{ℕ, ◌≡◌, List, [], ◌∷◌, Option, Some, None, Result, Ok, Err, refl, sym, ap, ◌∙◌}
use Rattle.scmi_board.specs.LineError.{FailsUnless, script_refusal}
use Rattle.scmi_board.specs.Lines.{Line}
use Rattle.scmi_board.specs.declared.line_error.LineError.{LineError}
use Rattle.scmi_board.specs.declared.line_error.LineError.TheVariants.{Form, Memory}
use Rattle.scmi_text.specs.TextLines.{FailsScript, after_each_line, after_lines}

module _ {A : Type 0} (with_line : A → Line → Option A) where
  abbrev from_line : ℕ → List Line → Option A → Result A ℕ
  from_line number lines next =
      elim next [ None ↦ Err number | Some value ↦ after_each_line with_line value lines ]

  no_line : (value : A) → after_each_line with_line value [] ≡ Ok value
  unfolding after_each_line
  no_line value = refl

  one_line : (value : A) (line : Line) (lines : List Line) → after_each_line with_line value
      (line ∷ lines) ≡ from_line line.number lines (with_line value line)
  unfolding after_each_line
  one_line value line lines = refl

  line_is : (value : A) (all : List Line) (line : Line) (lines : List Line) (next : Option A)
      → all ≡ line ∷ lines → with_line value line ≡ next
      → after_each_line with_line value all ≡ from_line line.number lines next
  line_is value all line lines next parts is = ap (after_each_line with_line value) parts
      ∙ one_line value line lines ∙ ap (from_line line.number lines) is

  -- where no line is left
  pub each_done : (value : A) (all : List Line) (total : Result A ℕ) → all ≡ []
      → after_each_line with_line value all ≡ total → total ≡ Ok value
  each_done value all total none so_far = sym so_far ∙ ap (after_each_line with_line value) none
      ∙ no_line value

  -- behind a line that makes something
  pub each_goes_on : (value next : A) (all : List Line) (line : Line) (lines : List Line)
      (total : Result A ℕ) → all ≡ line ∷ lines → with_line value line ≡ Some next
      → after_each_line with_line value all ≡ total → after_each_line with_line next lines ≡ total
  each_goes_on value next all line lines total parts is so_far =
      sym (line_is value all line lines (Some next) parts is) ∙ so_far

  -- at a line that makes nothing
  pub each_stops : (value : A) (all : List Line) (line : Line)
      (lines : List Line) (total : Result A ℕ) (error : LineError) → all ≡ line ∷ lines
      → FailsUnless error (with_line value line) → after_each_line with_line value all ≡ total
      → FailsScript (script_refusal error line.number) total
  each_stops value all line lines total Form parts is so_far = sym so_far
      ∙ line_is value all line lines None parts is
  each_stops value all line lines total Memory parts is so_far = tt

-- the same of the lines' texts alone
module _ {A : Type 0} (with_line : A → List ℕ → Option A) where
  pub lines_done : (value : A) (all : List Line) (total : Result A ℕ) → all ≡ []
      → after_lines with_line value all ≡ total → total ≡ Ok value
  lines_done value all total none so_far =
      each_done (λ so_far line. with_line so_far line.text) value all total none so_far

  pub lines_go_on : (value next : A) (all : List Line) (line : Line) (lines : List Line)
      (total : Result A ℕ) → all ≡ line ∷ lines → with_line value line.text ≡ Some next
      → after_lines with_line value all ≡ total → after_lines with_line next lines ≡ total
  lines_go_on value next all line lines total parts is so_far = each_goes_on
      (λ so_far line. with_line so_far line.text) value next all line lines total parts is so_far

  pub lines_stop : (value : A) (all : List Line) (line : Line)
      (lines : List Line) (total : Result A ℕ) (error : LineError) → all ≡ line ∷ lines
      → FailsUnless error (with_line value line.text) → after_lines with_line value all ≡ total
      → FailsScript (script_refusal error line.number) total
  lines_stop value all line lines total error parts is so_far = each_stops
      (λ so_far line. with_line so_far line.text) value all line lines total error parts is so_far
