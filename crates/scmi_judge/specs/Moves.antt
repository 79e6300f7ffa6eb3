-- What happens behind a record: the events of a history, and when the commands are executed that
-- are answered later. Moves stand newest first here.
use Rattle.std.specs.Prelude.{ℕ, ◌==◌, if◌then◌else◌, List, [], ◌∷◌, ◌++◌, Option, Some, None, option_map}
use Rattle.scmi_codec.specs.declared.frame.Frame.{Frame}
use Rattle.scmi_codec.specs.declared.frame.Answer.{Answer}
use Rattle.scmi_core.specs.declared.event.Event.{Event}
use Rattle.scmi_core.specs.declared.event.Event.TheVariants.{Promoted, Reported, Settled}
use Rattle.scmi_plan.specs.declared.report.Report.{Report}
use Rattle.scmi_plan.specs.declared.report.Report.TheVariants as reports
use Rattle.scmi_plan.specs.declared.report.Report.TheVariants.{Changed, First}
use Rattle.scmi_judge.specs.declared.outstanding.Outstanding.{Outstanding}

-- an event happens; or a command of an agent is asked, and is outstanding at a place; or the
-- command at a place is executed, by an event and with an answer; or a place is free again
pub data Move : Type 0 where
  happens : Event → Move
  asks : ℕ → ℕ → Frame → Move
  executes : ℕ → Event → Answer → Move
  frees : ℕ → Move

-- the events of moves, in order
abbrev pub history : List Move → List Event
history [] = []
history (Move.happens event ∷ moves) = history moves ++ event ∷ []
history (Move.asks k a frame ∷ moves) = history moves
history (Move.executes k event answer ∷ moves) = history moves ++ event ∷ []
history (Move.frees k ∷ moves) = history moves

-- what the hardware told, if an event is that
abbrev pub told_event : Event → Option Report
told_event (Reported effect) = Some (Changed effect)
told_event (Promoted place) = Some (First place)
told_event (Settled clock rate) = Some (reports.Settled clock rate)
told_event _ = None

-- a command of agent a that is outstanding, with the answer that it got if it was executed
abbrev pub outstanding : ℕ → Frame → Option Answer → Outstanding
outstanding a frame answer = record { agent = a; frame = frame; answer = answer }

-- the same command, executed with this answer
abbrev pub executed : Answer → Outstanding → Outstanding
executed answer command = outstanding command.agent command.frame (Some answer)

-- the command that is outstanding at a place after these moves, if one is
abbrev pub outstanding_at : ℕ → List Move → Option Outstanding
outstanding_at k [] = None
outstanding_at k (Move.happens event ∷ moves) = outstanding_at k moves
outstanding_at k (Move.asks j a frame ∷ moves) =
    if k == j then Some (outstanding a frame None) else outstanding_at k moves
outstanding_at k (Move.executes j event answer ∷ moves) =
    if k == j then option_map (executed answer) (outstanding_at k moves) else outstanding_at k moves
outstanding_at k (Move.frees j ∷ moves) = if k == j then None else outstanding_at k moves
