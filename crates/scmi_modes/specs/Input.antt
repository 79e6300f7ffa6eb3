-- What follows the first line of an input: a board and its scripts.
use Rattle.std.specs.Prelude.{◌≡◌, ℕ, ◌^◌, ◌<◌, nat_le, ⊤, if◌then◌else◌, List, [], length, Some, None, Result, Ok, Err}
use Rattle.scmi_board.specs.BoardText.{board_left}
use Rattle.scmi_board.specs.BoardLines.{Described, described_left, with_lines}
use Rattle.scmi_board.specs.Lines.{Line, LinesView}
use Rattle.scmi_io.specs.declared.input.TheConstants.{INPUT_BYTES}
use Rattle.scmi_plan.specs.Board.{Board}
use Rattle.scmi_plan.specs.PlanError.{first_fault, number}
use Rattle.scmi_text.specs.ScriptText.{AgentScript, with_line}
use Rattle.scmi_text.specs.StepText.{hardware_steps_of_lines, steps_of_lines}
use Rattle.scmi_text.specs.TextLines.{after_lines}
use Rattle.scmi_text.specs.declared.step.Step.{Step}
use Rattle.scmi_modes.specs.declared.run_error.RunError.{RunError}
use Rattle.scmi_modes.specs.declared.run_error.RunError.TheVariants.{Size, Read, Board as BoardFault, Script as ScriptFault, Plan as PlanFault, Limit, Memory, Write}
use Rattle.scmi_modes.specs.declared.script_kind.ScriptKind.{ScriptKind}
use Rattle.scmi_modes.specs.declared.script_kind.ScriptKind.TheVariants.{Plain, Hardware}

-- the lines after the first line
abbrev pub behind_mode : List ℕ → LinesView
behind_mode input = record { rest = input; number = 1 }

-- a board whose text says nothing of channels, and the lines after it
abbrev pub without_lines : Result (Board × List Line) ℕ → Result (Described × List Line) ℕ
without_lines (Err line) = Err line
without_lines (Ok found) = Ok ((found.0, []), found.1)

-- the board that the lines describe, and the lines after it
abbrev pub plain_board : LinesView → Result (Described × List Line) ℕ
plain_board lines = without_lines (board_left lines)

module _ {A : Type 0} where
  -- a board, with the channels that its text gives, and what follows it, if it keeps every rule;
  -- else the first rule that it breaks
  unfoldable pub valid : Described → A → Result (Board × A) RunError
  valid said script = elim (first_fault said.0)
      [ None ↦ Ok (with_lines said.0 said.1, script) | Some rule ↦ Err (PlanFault (number rule)) ]

  -- a board with its scripts, as the lines say for its number of agents; else the first line that
  -- is part of no script. A board of 2 ^ 32 agents, which no input has, breaks rule 1 before its
  -- scripts are read
  unfoldable pub with_scripts : (ℕ → List Line → Result A ℕ) → Described → List Line
      → Result (Board × A) RunError
  with_scripts scripts said lines =
      if nat_le (2 ^ 32) (length said.0.agents) then Err (PlanFault 1)
      else elim (scripts (length said.0.agents) lines) [
        | Err line ↦ Err (ScriptFault line)
        | Ok script ↦ valid said script
      ]

  -- the board and the scripts of an input, as its lines describe them; else its first fault
  unfoldable pub input_of : (LinesView → Result (Described × List Line) ℕ)
      → (ℕ → List Line → Result A ℕ) → List ℕ → Result (Board × A) RunError
  input_of boards scripts input = elim (boards (behind_mode input)) [
    | Err line ↦ Err (BoardFault line)
    | Ok found ↦ with_scripts scripts found.0 found.1
  ]

  -- a text that encodes a board and scripts, or neither, is rejected by this fault, which may also
  -- be out of memory
  abbrev pub FailsInput : RunError → Result A RunError → Type 0
  FailsInput (BoardFault line) there = there ≡ Err (BoardFault line)
  FailsInput (ScriptFault line) there = there ≡ Err (ScriptFault line)
  FailsInput (PlanFault rule) there = there ≡ Err (PlanFault rule)
  FailsInput Memory there = ⊤
  FailsInput _ there = ⊥

  -- a fault of a run of an input that encodes this: its length, or its first fault; a failed output
  -- comes only of an input without a fault. A failed read, or out of memory, shows nothing of it
  abbrev pub IsFaultOf : List ℕ → Result A RunError → RunError → Type 0
  IsFaultOf input there Size = INPUT_BYTES < length input
  IsFaultOf input there Read = ⊤
  IsFaultOf input there Write = (value : A) × (there ≡ Ok value)
  IsFaultOf input there fault = FailsInput fault there

  -- the same of a run that may meet a limit, which comes only of an input without a fault
  abbrev pub IsFaultOrLimit : List ℕ → Result A RunError → RunError → Type 0
  IsFaultOrLimit input there Limit = (value : A) × (there ≡ Ok value)
  IsFaultOrLimit input there fault = IsFaultOf input there fault

-- the board that lines describe before a script of this kind, and the lines after it: beside
-- hardware with its agents' channels
abbrev pub board_of_lines : ScriptKind → LinesView → Result (Described × List Line) ℕ
board_of_lines Plain lines = plain_board lines
board_of_lines Hardware lines = described_left lines

-- the steps of the lines of a script of this kind; else the number of the first invalid line
abbrev pub script_of_lines : ScriptKind → ℕ → List Line → Result (List Step) ℕ
script_of_lines Plain agents lines = steps_of_lines agents lines
script_of_lines Hardware agents lines = hardware_steps_of_lines agents lines

-- the scripts of lines; else the number of the first invalid line
abbrev pub scripts_of_lines : ℕ → List Line → Result (List AgentScript) ℕ
scripts_of_lines agents lines = after_lines (with_line agents) [] lines

-- the board and the steps that an input encodes; else its first fault
abbrev pub steps_of_input : ScriptKind → List ℕ → Result (Board × List Step) RunError
steps_of_input script input = input_of (board_of_lines script) (script_of_lines script) input

-- the board and the scripts that an input encodes; else its first fault
abbrev pub scripts_of_input : List ℕ → Result (Board × List AgentScript) RunError
scripts_of_input input = input_of plain_board scripts_of_lines input
