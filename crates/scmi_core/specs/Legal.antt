-- Legal histories.
use Rattle.std.specs.Prelude.{◌≡◌, ◌≢◌, List, ◌∷◌, ◌++◌, length, ◌<◌, ◌≤◌, None}
use Rattle.scmi_plan.specs.Agent.{IsAgent}
use Rattle.scmi_plan.specs.Board.{Board}
use Rattle.scmi_plan.specs.declared.report.Report.{Report}
use Rattle.scmi_plan.specs.declared.report.Report.TheVariants as report
use Rattle.scmi_core.specs.declared.event.Event.{Event}
use Rattle.scmi_core.specs.declared.event.Event.TheVariants.{Command, Advance, Sent, CommandFailed, AdvanceFailed, Restarted, Promoted, Settled, Reported}
use Rattle.scmi_core.specs.Effect.{effect_after}
use Rattle.scmi_core.specs.History.{CanSettle, deeds, outbox}
use Rattle.scmi_core.specs.Pending.{pending_sets}
use Rattle.scmi_core.specs.Value.{IsReportable}

-- an event may come after a history: a command of an agent, an advance if a set is pending, a
-- posting if the outbox has a message; a command or an advance may fail if it would change the
-- hardware; an agent may restart; a set that is pending may be promoted, and that of a free clock
-- be settled; and the hardware may report a change of its own
abbrev pub CanFollow : Board → List Event → Event → Type 0
CanFollow board before (Command a frame) = IsAgent (length board.agents) a
CanFollow board before Advance = 0 < length (pending_sets board (deeds board before))
CanFollow board before (Sent a) = (1 ≤ a) × (a ≤ length board.agents)
    × (0 < length (outbox board a before))
CanFollow board before (CommandFailed a frame fault) = IsAgent (length board.agents) a
    × (effect_after board before (Command a frame) ≢ None)
CanFollow board before (AdvanceFailed fault) = 0 < length (pending_sets board (deeds board before))
CanFollow board before (Restarted a) = IsAgent (length board.agents) a
CanFollow board before (Promoted place) = place < length (pending_sets board (deeds board before))
CanFollow board before (Settled clock rate) = CanSettle board before clock
CanFollow board before (Reported effect) = IsReportable board effect

-- the event of what the hardware reports without being asked
abbrev pub told : Report → Event
told (report.Changed effect) = Reported effect
told (report.First place) = Promoted place
told (report.Settled clock rate) = Settled clock rate

-- each event may come after those before it
pub record IsLegal (board : Board) (h : List Event) : Type 0 where
  pub each : (before after : List Event) (event : Event) → h ≡ before ++ event ∷ after
      → CanFollow board before event
