-- The chart of a run.
use Rattle.std.specs.Prelude.{◌≡◌, ◌≤◌, ℕ, Bool, List, Result, Ok, length, map}
use Rattle.std.specs.List.{All}
use Rattle.scmi_link.specs.View.{CallerView}
use Rattle.scmi_link.specs.declared.closing.Closing.{Closing}
use Rattle.scmi_link.specs.declared.close_error.CloseError.{CloseError}
use Rattle.scmi_plan.specs.Board.{Board}
use Rattle.scmi_board.specs.BoardLines.{Described}
use Rattle.scmi_board.specs.Lines.{Line}
use Rattle.scmi_board.specs.ValidBoard.{with_its_lines}
use Rattle.scmi_text.specs.declared.step.Step.{Step}
use Rattle.scmi_text.specs.declared.step_line.StepLine.{StepLine}
use Rattle.scmi_modes.specs.SessionView.{SessionView}
use Rattle.scmi_modes.specs.Run.{Runs}
use Rattle.scmi_modes.specs.StepLines.{IsLineOf}
use Rattle.scmi_modes.specs.SessionSteps.{Steps as Makes}
use Rattle.scmi_chart.specs.declared.chart.Chart.{Chart}
use Rattle.scmi_chart.specs.Signs.{sign_of}
use Rattle.scmi_chart.specs.Shown.{Shown, shown_after, run_signs, none_later, head_of, heads_from}
use Rattle.scmi_modes.specs.Input.{behind_mode, board_of_lines, script_of_lines}
use Rattle.scmi_modes.specs.Runs.{may_be_full}
use Rattle.scmi_modes.specs.Steps.{MayHave, shows_close}
use Rattle.scmi_modes.specs.declared.kind.Kind.{Kind}
use Rattle.scmi_modes.specs.declared.script_kind.ScriptKind.{ScriptKind}

-- the chart's marks are those of a run of these steps on this board: for each line that they give
-- what it shows, in order, with the words of its message, and nothing else; and its lifelines are
-- those of its agents, in order, with their names. The names of all are those of another board,
-- which may have other channels
pub record ShowsRun (full : Bool) (Shows : CallerView → Result Closing CloseError → Type 0)
    (board named : Board) (steps : List Step) (chart : Chart) : Type 0 where
  pub lines : List StepLine
  pub last : SessionView
  pub made : Runs full Shows board steps lines last
  pub marks : map sign_of chart.marks.items ≡ run_signs none_later steps lines
  pub lifelines : map head_of chart.lifelines.items ≡ heads_from 1 named.agents

-- the step was made, and what a chart shows then is what it showed before, and what the line that
-- the step gave shows
pub record ShowsStep (full : Bool) (Shows : CallerView → Result Closing CloseError → Type 0)
    (step : Step) (old new : SessionView) (before after : Shown) : Type 0 where
  pub line : StepLine
  pub made : Makes full Shows step line old new
  pub reported : IsLineOf step line
  pub shown : after ≡ shown_after step line before

-- what follows the first line of an input is this board, with the channels that its text gives, and
-- these steps, in a script of this kind
pub record StandsFor (script : ScriptKind) (input : List ℕ) (said : Described)
    (steps : List Step) : Type 0 where
  pub lines : List Line
  pub is_board : board_of_lines script (behind_mode input) ≡ Ok (said, lines)
  pub are_steps : script_of_lines script (length said.0.agents) lines ≡ Ok steps

-- the chart shows the run of what follows the first line of an input: its board, with its channels,
-- and its steps, of which there are 2,000 at most, and each of which a script of this kind may
-- have, over this kind of channel
pub record ShowsScript (script : ScriptKind) (kind : Kind) (input : List ℕ)
    (chart : Chart) : Type 0 where
  pub said : Described
  pub steps : List Step
  pub of_input : StandsFor script input said steps
  pub few : length steps ≤ 2000
  pub allowed : All (MayHave script) steps
  pub shown : ShowsRun (may_be_full kind) (shows_close kind)
      (with_its_lines said) said.0 steps chart
