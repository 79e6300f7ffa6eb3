-- The faults of a run: exit statuses, texts, and the errors that they come from.
use Rattle.std.specs.Prelude.{ℕ, List, ◌++◌, decimal}
use Rattle.scmi_modes.specs.declared.run_error.RunError.{RunError}
use Rattle.scmi_modes.specs.declared.run_error.RunError.TheVariants.{Mode, Size, Read, Area, Board, Script, Plan, Limit, Memory, Write}
use Rattle.scmi_board.specs.declared.text_error.TextError.{TextError}
use Rattle.scmi_board.specs.declared.text_error.TextError.TheVariants as text
use Rattle.scmi_io.specs.declared.fault_words.TheConstants.{AREA, BOARD, LIMIT, MEMORY, MODE, PLAN, READ, SCRIPT, SIZE, WRITE}
use Rattle.scmi_io.specs.declared.input_error.InputError.{InputError}
use Rattle.scmi_io.specs.declared.input_error.InputError.TheVariants as input
use Rattle.scmi_plan.specs.PlanError.{number}
use Rattle.scmi_plan.specs.declared.plan_error.PlanError.{PlanError}
use Rattle.scmi_plan.specs.declared.plan_error.PlanError.TheVariants as plan

-- 1 for a failed output, 3 for a limit, 4 for out of memory, and 2 for a rejected input (own)
abbrev pub status_of : RunError → ℕ
status_of Write = 1
status_of Limit = 3
status_of Memory = 4
status_of _ = 2

-- the text of a fault (own)
abbrev pub fault_text : RunError → List ℕ
fault_text Mode = MODE.now
fault_text Size = SIZE.now
fault_text Read = READ.now
fault_text Area = AREA.now
fault_text (Board line) = BOARD.now ++ decimal line
fault_text (Script line) = SCRIPT.now ++ decimal line
fault_text (Plan rule) = PLAN.now ++ decimal rule
fault_text Limit = LIMIT.now
fault_text Memory = MEMORY.now
fault_text Write = WRITE.now

-- an input that is not read
abbrev pub fault_of_input : InputError → RunError
fault_of_input input.Size = Size
fault_of_input input.Read = Read
fault_of_input input.Memory = Memory

-- a text that is rejected, by its line
abbrev pub fault_of_text : TextError → RunError
fault_of_text (text.Board line) = Board line
fault_of_text (text.Script line) = Script line
fault_of_text text.Memory = Memory

-- a board that breaks a rule, by the rule's number
abbrev pub fault_of_plan : PlanError → RunError
fault_of_plan plan.Memory = Memory
fault_of_plan rule = Plan (number rule)
