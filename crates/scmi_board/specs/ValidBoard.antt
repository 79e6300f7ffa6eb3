-- A board that keeps every rule.
use Rattle.std.specs.Prelude.{◌≡◌, ℕ, ⊤, List, Option, None, Some, Result, Ok, Err}
use Rattle.scmi_plan.specs.Board.{Board}
use Rattle.scmi_plan.specs.PlanError.{first_fault}
use Rattle.scmi_plan.specs.declared.plan_error.PlanError.{PlanError}
use Rattle.scmi_plan.specs.declared.plan_error.PlanError.TheVariants as plan
use Rattle.scmi_board.specs.BoardLines.{Described, described_left, with_lines}
use Rattle.scmi_board.specs.Lines.{Line, first_number_in, whole}
use Rattle.scmi_board.specs.declared.board_error.BoardError.{BoardError}
use Rattle.scmi_board.specs.declared.board_error.BoardError.TheVariants as error
use Rattle.scmi_board.specs.declared.line_after.LineAfter.{LineAfter}
use Rattle.scmi_board.specs.declared.text_error.TextError.{TextError}
use Rattle.scmi_board.specs.declared.text_error.TextError.TheVariants as text

-- what lines have said, if none follows the line `end`; else the number of the first that does
abbrev pub said_alone : Described → Option ℕ → Result Described ℕ
said_alone said None = Ok said
said_alone said (Some number) = Err number

-- what is said by all lines of a text, of which none follows the line `end`; else the number of the
-- first that is no line of a board, or follows it
abbrev pub said_whole : Result (Described × List Line) ℕ → Result Described ℕ
said_whole (Err number) = Err number
said_whole (Ok found) = said_alone found.0 (first_number_in found.1)

-- what a text says: a board and the lines behind its rows, and nothing after them
abbrev pub said_in : List ℕ → Result Described ℕ
said_in text = said_whole (described_left (whole text))

-- a text is a board that keeps every rule, and these lines are behind its rows
pub record IsBoardText (text : List ℕ) (said : Described) : Type 0 where
  pub said_is : said_in text ≡ Ok said
  pub valid : first_fault said.0 ≡ None

-- a board with what the lines behind its rows say
abbrev pub with_its_lines : Described → Board
with_its_lines said = with_lines said.0 said.1

-- a text is a board, and this is the first rule that the board breaks
pub record BreaksRule (text : List ℕ) (rule : PlanError) : Type 0 where
  pub said : Described
  pub said_is : said_in text ≡ Ok said
  pub broken : first_fault said.0 ≡ Some rule

-- a text begins with a board, and the line of this number is the first behind it
pub record HasLineAfter (text : List ℕ) (line : ℕ) : Type 0 where
  pub said : Described
  pub behind : List Line
  pub said_is : described_left (whole text) ≡ Ok (said, behind)
  pub first : first_number_in behind ≡ Some line

-- why a text is no valid board: the number of its first line that is not one of a board, or that
-- follows one, or the first rule that the board breaks. Out of memory shows nothing of the text
abbrev pub IsBoardFault : List ℕ → BoardError → Type 0
IsBoardFault text (error.Line line) = described_left (whole text) ≡ Err line
IsBoardFault text (error.After line) = HasLineAfter text line
IsBoardFault text (error.Rule rule) = BreaksRule text rule
IsBoardFault text error.Memory = ⊤

-- a text that is rejected, by its line
abbrev pub error_of_text : TextError → BoardError
error_of_text (text.Board line) = error.Line line
error_of_text (text.Script line) = error.Line line
error_of_text text.Memory = error.Memory

-- a line behind a board
abbrev pub error_of_after : LineAfter → BoardError
error_of_after after = error.After after.number

-- a board that breaks a rule
abbrev pub error_of_rule : PlanError → BoardError
error_of_rule plan.Memory = error.Memory
error_of_rule rule = error.Rule rule
