-- Why a record is not checked: exit statuses, texts, and the errors that they come from.
use Rattle.std.specs.Prelude.{⊤, ℕ, List, ◌++◌, decimal}
use Rattle.scmi_board.specs.declared.board_error.BoardError.{BoardError}
use Rattle.scmi_board.specs.declared.board_error.BoardError.TheVariants as board
use Rattle.scmi_board.specs.declared.text_error.TextError.{TextError}
use Rattle.scmi_board.specs.declared.text_error.TextError.TheVariants as text
use Rattle.scmi_io.specs.declared.fault_words.TheConstants.{BOARD, MEMORY, PLAN, READ, RECORD, SIZE, WRITE}
use Rattle.scmi_io.specs.declared.input_error.InputError.{InputError}
use Rattle.scmi_io.specs.declared.input_error.InputError.TheVariants as input
use Rattle.scmi_plan.specs.PlanError.{number}
use Rattle.scmi_check.specs.declared.check_error.TheConstants.{EMPTY, LONG}
use Rattle.scmi_check.specs.declared.check_error.CheckError.{CheckError}
use Rattle.scmi_check.specs.declared.check_error.CheckError.TheVariants.{Size, Read, Board, Plan, Record, Long, Empty, Memory, Write}

-- 1 for a failed output, 4 for out of memory, and 2 for a rejected input (own)
abbrev pub fault_status : CheckError → ℕ
fault_status Write = 1
fault_status Memory = 4
fault_status _ = 2

-- the text of a fault (own)
abbrev pub fault_text : CheckError → List ℕ
fault_text Size = SIZE.now
fault_text Read = READ.now
fault_text (Board line) = BOARD.now ++ decimal line
fault_text (Plan rule) = PLAN.now ++ decimal rule
fault_text (Record line) = RECORD.now ++ decimal line
fault_text (Long line) = LONG.now ++ decimal line
fault_text Empty = EMPTY.now
fault_text Memory = MEMORY.now
fault_text Write = WRITE.now

-- memory or the output is refused
abbrev pub IsRefused : CheckError → Type 0
IsRefused Memory = ⊤
IsRefused Write = ⊤
IsRefused _ = ⊥

-- an input that is not read
abbrev pub error_of_input : InputError → CheckError
error_of_input input.Size = Size
error_of_input input.Read = Read
error_of_input input.Memory = Memory

-- the same of a line of this number
abbrev pub line_error : InputError → ℕ → CheckError
line_error input.Size line = Long line
line_error input.Read line = Read
line_error input.Memory line = Memory

-- a text that is rejected, by its line
abbrev pub error_of_text : TextError → CheckError
error_of_text (text.Board line) = Board line
error_of_text (text.Script line) = Record line
error_of_text text.Memory = Memory

-- a text without a valid board: by the number of its line, or of the rule that the board breaks
abbrev pub error_of_board : BoardError → CheckError
error_of_board (board.Line line) = Board line
error_of_board (board.After line) = Board line
error_of_board (board.Rule rule) = Plan (number rule)
error_of_board board.Memory = Memory
