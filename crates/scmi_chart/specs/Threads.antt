-- The chart of a run of agents in threads.
use Rattle.std.specs.Prelude.{◌≡◌, ◌≤◌, ℕ, Bool, List, [], length, Result, Ok, vec_len}
use Rattle.scmi_link.specs.View.{CallerView}
use Rattle.scmi_link.specs.declared.closing.Closing.{Closing}
use Rattle.scmi_link.specs.declared.close_error.CloseError.{CloseError}
use Rattle.scmi_plan.specs.Board.{Board}
use Rattle.scmi_board.specs.BoardText.{board_left}
use Rattle.scmi_board.specs.Lines.{Line}
use Rattle.scmi_core.specs.Legal.{IsLegal}
use Rattle.scmi_link.specs.Scripts.{orders_of}
use Rattle.scmi_link.specs.declared.script.Script.{Script}
use Rattle.scmi_ends.specs.Each.{AllFrom}
use Rattle.scmi_text.specs.ScriptText.{scripts_of, with_line}
use Rattle.scmi_text.specs.TextLines.{after_lines}
use Rattle.scmi_threads.specs.Logs.{LogHeadline}
use Rattle.scmi_threads.specs.ScriptLogs.{IsScriptLog}
use Rattle.scmi_threads.specs.declared.outcome.Outcome.{Outcome}
use Rattle.scmi_chart.specs.declared.chart.Chart.{Chart}
use Rattle.scmi_chart.specs.History.{steps_of_run}
use Rattle.scmi_chart.specs.Run.{ShowsRun}
use Rattle.scmi_modes.specs.Runs.{may_be_full}
use Rattle.scmi_modes.specs.Steps.{shows_close}
use Rattle.scmi_modes.specs.declared.kind.Kind.{Kind}

-- what follows the first line of an input is this board and these scripts of its agents
pub record HasScripts (input : List ℕ) (board : Board) (scripts : List Script) : Type 0 where
  pub lines : List Line
  pub is_board : board_left (record { rest = input; number = 1 }) ≡ Ok (board, lines)
  pub are_scripts : after_lines (with_line (length board.agents)) [] lines ≡ Ok (scripts_of scripts)

-- the chart shows what a run of these scripts on this board left: its history is legal, the agents'
-- logs follow the scripts and agree with that history, and the steps that are drawn are those of
-- the history, 2,000 at most
pub record ShowsOutcome (full : Bool) (Shows : CallerView → Result Closing CloseError → Type 0)
    (board : Board) (scripts : List Script) (outcome : Outcome) (chart : Chart) : Type 0 where
  pub legal : IsLegal board outcome.trace.events
  pub count : vec_len outcome.logs ≡ length board.agents
  pub follow : AllFrom (λ a log. IsScriptLog full (orders_of scripts a) log) 1 outcome.logs.items
  pub headline : AllFrom
      (λ a log. LogHeadline board outcome.trace.events a log) 1 outcome.logs.items
  pub few : length (steps_of_run outcome.trace.events outcome.logs.items) ≤ 2000
  pub shown : ShowsRun full Shows board board
      (steps_of_run outcome.trace.events outcome.logs.items) chart

-- the chart shows what some run of these scripts on this board left
abbrev pub ShowsScripts : (full : Bool) (Shows : CallerView → Result Closing CloseError → Type 0)
    → Board → List Script → Chart → Type 0
ShowsScripts full Shows board scripts chart = (outcome : Outcome)
    × ShowsOutcome full Shows board scripts outcome chart

-- the chart shows what a run of the scripts that follow the first line of an input left, on the
-- board there, over channels of this kind
pub record ShowsThreads (kind : Kind) (input : List ℕ) (chart : Chart) : Type 0 where
  pub board : Board
  pub scripts : List Script
  pub of_input : HasScripts input board scripts
  pub shown : ShowsScripts (may_be_full kind) (shows_close kind) board scripts chart
