-- The lines of a board, one after the other.
use Rattle.std.proofs.Common.{ℕ, ◌≡◌, Bool, true, false, cond, List, [], ◌∷◌, Option, Some, None, Result, Ok, Err, refl, sym, ap, ◌∙◌}
use Rattle.std.specs.Str.{bytes_eq}
use Rattle.scmi_plan.specs.Board.{Board}
use Rattle.scmi_board.specs.BoardText.{FailsBoard, behind_heading, headed, lines_by}
use Rattle.scmi_board.specs.LineError.{FailsUnless, board_refusal}
use Rattle.scmi_board.specs.Lines.{Line}
use Rattle.scmi_board.specs.Rows.{heading_of}
use Rattle.scmi_board.specs.declared.line_error.LineError.{LineError}
use Rattle.scmi_board.specs.declared.line_error.LineError.TheVariants.{Form, Memory}
use Rattle.scmi_board.specs.declared.text_error.TextError.{TextError}
use Rattle.scmi_board.specs.declared.text_error.TextError.TheVariants as errors
use Rattle.scmi_board.specs.declared.words.TheConstants.{END}

module _ {A : Type 0} (step : A → List ℕ → Option A) where
  abbrev Found : Type 0
  Found = Result (A × List Line) ℕ

  abbrev from_line : ℕ → ℕ → List Line → Option A → Found
  from_line last number lines made =
      elim made [ None ↦ Err number | Some more ↦ lines_by step last more lines ]

  no_lines : (last : ℕ) (a : A) → lines_by step last a [] ≡ Err last
  unfolding lines_by
  no_lines last a = refl

  next_line : (last : ℕ) (a : A) (line : Line) (lines : List Line)
      → lines_by step last a (line ∷ lines) ≡ cond (bytes_eq line.text END.now) (Ok (a, lines))
      (from_line last line.number lines (step a line.text))
  unfolding lines_by
  next_line last a line lines = refl

  pub lines_missing : (last : ℕ) (a : A) (all : List Line) (number : ℕ) (total : Found) → all ≡ []
      → last ≡ number → lines_by step last a all ≡ total → total ≡ Err number
  lines_missing last a all number total none same so_far = sym so_far
      ∙ ap (lines_by step last a) none ∙ no_lines last a ∙ ap (λ (n : ℕ). Err n) same

  pub lines_end : (last : ℕ) (a : A) (all : List Line) (line : Line) (lines : List Line)
      (total : Found) → all ≡ line ∷ lines → bytes_eq line.text END.now ≡ true
      → lines_by step last a all ≡ total → total ≡ Ok (a, lines)
  lines_end last a all line lines total parts end so_far =
      sym so_far ∙ ap (lines_by step last a) parts ∙ next_line last a line lines ∙ ap (λ (b : Bool).
      cond b (Ok (a, lines)) (from_line last line.number lines (step a line.text))) end

  line_is : (last : ℕ) (a : A) (all : List Line) (line : Line) (lines : List Line) (made : Option A)
      → all ≡ line ∷ lines → bytes_eq line.text END.now ≡ false → step a line.text ≡ made
      → lines_by step last a all ≡ from_line last line.number lines made
  line_is last a all line lines made parts other is =
      ap (lines_by step last a) parts ∙ next_line last a line lines ∙ ap (λ (b : Bool).
      cond b (Ok (a, lines)) (from_line last line.number lines (step a line.text))) other
      ∙ ap (from_line last line.number lines) is

  pub lines_go_on : (last : ℕ) (a more : A) (all : List Line) (line : Line) (lines : List Line)
      (total : Found) → all ≡ line ∷ lines → bytes_eq line.text END.now ≡ false → step a line.text
      ≡ Some more → lines_by step last a all ≡ total → lines_by step last more lines ≡ total
  lines_go_on last a more all line lines total parts other is so_far =
      sym (line_is last a all line lines (Some more) parts other is) ∙ so_far

  pub lines_stop : (last : ℕ) (a : A) (all : List Line) (line : Line) (lines : List Line)
      (total : Found) (error : LineError) → all ≡ line ∷ lines → bytes_eq line.text END.now ≡ false
      → FailsUnless error (step a line.text) → lines_by step last a all ≡ total
      → FailsBoard (board_refusal error line.number) total
  lines_stop last a all line lines total Form parts other is so_far = sym so_far
      ∙ line_is last a all line lines None parts other is
  lines_stop last a all line lines total Memory parts other is so_far = tt

  -- what follows a heading
  pub heading_fails : (start : Board → A)
      (last : ℕ) (error : TextError) (there : Result (Board × List Line) ℕ) → FailsBoard error there
      → FailsBoard error (behind_heading start step last there)
  heading_fails start last (errors.Board line) there fails =
      ap (behind_heading start step last) fails
  heading_fails start last (errors.Script line) there fails = fails
  heading_fails start last errors.Memory there fails = tt

  pub behind_is : (start : Board → A) (last at : ℕ) (there : Result (Board × List Line) ℕ)
      (board : Board) (lines : List Line) → there ≡ Ok (board, lines) → at ≡ last
      → behind_heading start step last there ≡ lines_by step at (start board) lines
  behind_is start last at there board lines found same = ap (behind_heading start step last) found
      ∙ ap (λ (n : ℕ). lines_by step n (start board) lines) (sym same)

-- the heading
abbrev from_heading : ℕ → List Line → Option Board → Result (Board × List Line) ℕ
from_heading number lines heading =
    elim heading [ None ↦ Err number | Some board ↦ Ok (board, lines) ]

pub heading_missing : (last number : ℕ) (all : List Line) → all ≡ [] → last ≡ number
    → headed last all ≡ Err number
unfolding headed
heading_missing last number all none same = rw (none, same) refl

pub heading_is : (last : ℕ) (all : List Line) (line : Line) (lines : List Line)
    (heading : Option Board) → all ≡ line ∷ lines → heading_of line.text ≡ heading
    → headed last all ≡ from_heading line.number lines heading
unfolding headed
heading_is last all line lines heading parts is = rw parts (ap (from_heading line.number lines) is)

pub heading_stops : (last : ℕ) (all : List Line) (line : Line) (lines : List Line)
    (error : LineError) → all ≡ line ∷ lines → FailsUnless error (heading_of line.text)
    → FailsBoard (board_refusal error line.number) (headed last all)
heading_stops last all line lines Form parts is = heading_is last all line lines None parts is
heading_stops last all line lines Memory parts is = tt
