-- The board of a text, and the faults of one, as numbers for C.
use Rattle.std.specs.Prelude.{◌≡◌, ℕ, ◌+◌, ◌-◌, ◌^◌, ◌<◌, ◌≤◌, ◌⊎◌, min, List, Option, Some, None, Result, Ok, Err}
use Rattle.scmi_plan.specs.Board.{Board}
use Rattle.scmi_plan.specs.PlanError.{first_fault, number}
use Rattle.scmi_plan.specs.declared.plan_error.PlanError.{PlanError}
use Rattle.scmi_board.specs.BoardLines.{Described, with_lines}
use Rattle.scmi_board.specs.ValidBoard.{said_in}
use Rattle.scmi_c.specs.declared.code.TheConstants.{MEMORY, RULE, LINE}

-- out of memory, a rule of boards (1 to 5), or a line
abbrev pub IsFault : ℕ → Type 0
IsFault n = (n ≡ MEMORY) ⊎ ((RULE < n) × (n ≤ RULE + 5)) ⊎ (LINE ≤ n)

-- the number of a line of another form, or behind the board
abbrev pub line_fault : ℕ → ℕ
line_fault line = min (LINE + line) (2 ^ 32 - 1)

-- a board that breaks no rule, or the number of the first that it breaks
abbrev pub unless_fault : Option PlanError → Board → Result Board ℕ
unless_fault None board = Ok board
unless_fault (Some rule) board = Err (RULE + number rule)

-- what a text says, as a board with its lines
abbrev pub board_said : Result Described ℕ → Result Board ℕ
board_said (Err line) = Err (line_fault line)
board_said (Ok said) = unless_fault (first_fault said.0) (with_lines said.0 said.1)

-- the board of a text with what its lines say, or the number of its first fault
abbrev pub board_of_text : List ℕ → Result Board ℕ
board_of_text text = board_said (said_in text)
