-- The states of the platform's domains, clocks and outboxes after its history.
use Rattle.std.specs.Prelude.{◌≡◌, ◌≤◌, ℕ, ◌==◌, if◌then◌else◌, Bool, false, List, length, min}
use Rattle.scmi_plan.specs.Agent.{IsNoAgent}
use Rattle.scmi_plan.specs.Board.{Board}
use Rattle.scmi_plan.specs.declared.resource.Resource.TheVariants as resource
use Rattle.scmi_core.specs.History.{deeds, outbox}
use Rattle.scmi_core.specs.Pending.{is_pending}
use Rattle.scmi_core.specs.Value.{bit_value, value}
use Rattle.scmi_core.specs.Value as slot
use Rattle.scmi_core.specs.declared.event.Event.{Event}
use Rattle.scmi_chart.specs.declared.chart.State.{State}
use Rattle.scmi_chart.specs.declared.chart.State.TheVariants as state
use Rattle.scmi_chart.specs.declared.subject.Subject.{Subject}
use Rattle.scmi_chart.specs.declared.subject.Subject.TheVariants as subject

-- a power state in a chart: 0 is ON
abbrev pub power_state : ℕ → State
power_state word = if word == 0 then state.On else state.Off

-- the state is that of this domain, clock or outbox after the history of a platform with this board
abbrev pub IsStateOf : Subject → Board → List Event → State → Type 0
IsStateOf (subject.Domain d) b h s = s ≡ power_state (value b (slot.State d) (deeds b h))
IsStateOf (subject.Clock c) b h (state.Rate hertz enabled) = (hertz ≡ value b (slot.Rate c)
    (deeds b h)) × (bit_value enabled ≡ value b (slot.Enabled c) (deeds b h))
IsStateOf (subject.Clock c) b h _ = ⊥
IsStateOf (subject.Outbox a) b h s = s ≡ state.Waiting (min (length (outbox b a h)) 255)

-- the board lacks this domain or clock, or the agent of this outbox
abbrev pub IsLacking : Subject → Board → Type 0
IsLacking (subject.Domain d) b = length b.domains ≤ d
IsLacking (subject.Clock c) b = length b.clocks ≤ c
IsLacking (subject.Outbox a) b = IsNoAgent (length b.agents) a

-- whether a set of it is pending then
abbrev pub is_set_pending : Subject → Board → List Event → Bool
is_set_pending (subject.Domain d) b h = is_pending b (resource.Domain d) (deeds b h)
is_set_pending (subject.Clock c) b h = is_pending b (resource.Clock c) (deeds b h)
is_set_pending (subject.Outbox a) b h = false
