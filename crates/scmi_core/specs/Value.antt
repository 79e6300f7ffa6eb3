-- Values of domains and clocks, and the events that change them.
use Rattle.std.specs.Prelude.{◌≡◌, ℕ, ◌==◌, ◌<◌, ◌≤◌, Bool, true, false, if◌then◌else◌, List, length, slice_get, Option, Some, None, option_map}
use Rattle.std.specs.List.{filter_map}
use Rattle.std.specs.Option.{option_and_then, option_or, option_to_list}
use Rattle.scmi_plan.specs.Board.{Board, domain_at, clock_at}
use Rattle.scmi_power.specs.PowerReply.{is_state, state_on, state_off}
use Rattle.scmi_core.specs.declared.pending_set.PendingSet.{PendingSet}
use Rattle.scmi_core.specs.declared.pending_set.Setting.{Setting}
use Rattle.scmi_core.specs.declared.event.Event.{Event}
use Rattle.scmi_core.specs.declared.event.Event.TheVariants.{Advance, AdvanceFailed, CommandFailed, Reported}
use Rattle.scmi_plan.specs.declared.resource.Resource.{Resource}
use Rattle.scmi_plan.specs.declared.resource.Resource.TheVariants as resource
use Rattle.scmi_plan.specs.declared.effect.Effect.{Effect}
use Rattle.scmi_plan.specs.declared.effect.Effect.TheVariants as effect
use Rattle.scmi_codec.specs.declared.fault.Fault.{Fault}
use Rattle.scmi_codec.specs.declared.fault.Fault.TheVariants.{HardwareError}
use Rattle.scmi_core.specs.Commands.{now_of, setting_effect}
use Rattle.scmi_core.specs.Deed.{Deed, Success, flat_map_with_prefix, latest, success_at}
use Rattle.scmi_core.specs.Pending.{pending_sets}

-- what has a value: a domain's state, a clock's rate in Hz, a clock's enabled bit
pub data Thing : Type 0 where
  State : (domain : ℕ) → Thing
  Rate : (clock : ℕ) → Thing
  Enabled : (clock : ℕ) → Thing

-- whether two things are the same
abbrev pub same_thing : Thing → Thing → Bool
same_thing (State d) (State e) = d == e
same_thing (Rate c) (Rate e) = c == e
same_thing (Enabled c) (Enabled e) = c == e
same_thing _ _ = false

-- the domain or clock that a thing is of
abbrev pub resource_of : Thing → Resource
resource_of (State d) = resource.Domain d
resource_of (Rate c) = resource.Clock c
resource_of (Enabled c) = resource.Clock c

-- whether a value switches a thing off: a domain's state OFF, or a clock's enabled bit 0
abbrev pub is_off : Thing → ℕ → Bool
is_off (State d) value = value == state_off
is_off (Rate c) value = false
is_off (Enabled c) value = value == 0

-- a value that an agent gave to a thing, or of which the hardware reported that the thing has it
pub record Change : Type 0 where
  pub thing : Thing
  pub value : ℕ
  pub causer : ℕ

-- a bit as a number
abbrev pub bit_value : Bool → ℕ
bit_value b = if b then 1 else 0

-- the thing that an effect changes
abbrev pub thing_of : Effect → Thing
thing_of (effect.State d state) = State d
thing_of (effect.Rate c rate) = Rate c
thing_of (effect.Enabled c enabled) = Enabled c

-- the value that it gives it
abbrev pub value_of : Effect → ℕ
value_of (effect.State d state) = state
value_of (effect.Rate c rate) = rate
value_of (effect.Enabled c enabled) = bit_value enabled

-- an effect that agent a caused, as a change
abbrev pub given : ℕ → Effect → Change
given a e = record { thing = thing_of e; value = value_of e; causer = a }

-- a setting of agent a, as a change
abbrev pub set_to_change : ℕ → Setting → Change
set_to_change a s = given a (setting_effect s)

-- the change that a pending set makes when it completes
abbrev pub completion : PendingSet → Change
completion p = set_to_change p.agent p.setting

-- the change that a success makes at once: a synchronous set, or a clock configuration
abbrev pub change_now : Board → Success → Option Change
change_now board s = option_map (given s.caller) (now_of board s.command)

-- the set that an event completes: the first that is pending before it
abbrev pub completed_set : Board → List Deed → Event → Option PendingSet
completed_set board before Advance = slice_get (pending_sets board before) 0
completed_set board before _ = None

-- the set that an event ends as failed: the first that is pending before it
abbrev pub failed_set : Board → List Deed → Event → Option PendingSet
failed_set board before (AdvanceFailed fault) = slice_get (pending_sets board before) 0
failed_set board before _ = None

-- the fault with which an event failed; of an event that did not fail it says nothing
abbrev pub fault_in : Event → Fault
fault_in (AdvanceFailed fault) = fault
fault_in (CommandFailed a frame fault) = fault
fault_in _ = HardwareError

-- the change that a success or a completed set makes
abbrev pub change_of : Board → Option Success → Option PendingSet → Option Change
change_of board success done =
    option_or (option_map completion done) (option_and_then (change_now board) success)

-- what the hardware made by itself, as a change: no agent caused it, and so the platform did, whose
-- number is 0
abbrev pub change_reported : Effect → Change
change_reported effect = given 0 effect

-- the change that an event reports, if it is one that the hardware made by itself
abbrev pub reported : Event → Option Change
reported (Reported effect) = Some (change_reported effect)
reported _ = None

-- the change that a deed makes for a command, at once or as its set completes, given the deeds
-- before it
abbrev pub commanded_by : Board → List Deed → Deed → Option Change
commanded_by board before deed =
    change_of board (success_at board deed.event deed.reply) (completed_set board before deed.event)

-- the change that a deed makes, given the deeds before it: one that the hardware reported, or one
-- for a command
abbrev pub change_by : Board → List Deed → Deed → Option Change
change_by board before deed = option_or (reported deed.event) (commanded_by board before deed)

-- the changes of a history, in order
abbrev pub changes : Board → List Deed → List Change
changes board h =
    flat_map_with_prefix (λ before deed. option_to_list (change_by board before deed)) h

-- the changes of a history but those that the hardware reported, in order
abbrev pub commanded_changes : Board → List Deed → List Change
commanded_changes board h =
    flat_map_with_prefix (λ before deed. option_to_list (commanded_by board before deed)) h

-- the board lacks the domain or clock of a report
abbrev pub HasNoResource : Board → Effect → Type 0
HasNoResource board (effect.State d state) = length board.domains ≤ d
HasNoResource board (effect.Rate c rate) = length board.clocks ≤ c
HasNoResource board (effect.Enabled c enabled) = length board.clocks ≤ c

-- a report gives a domain of the board a state that is neither ON nor OFF
abbrev pub HasNoState : Board → Effect → Type 0
HasNoState board (effect.State d state) = (d < length board.domains) × (is_state state ≡ false)
HasNoState board (effect.Rate c rate) = ⊥
HasNoState board (effect.Enabled c enabled) = ⊥

-- the hardware may report this: the board has the domain or clock, and a domain's state is ON or
-- OFF; a clock may have any rate
abbrev pub IsReportable : Board → Effect → Type 0
IsReportable board (effect.State d state) = (d < length board.domains) × (is_state state ≡ true)
IsReportable board (effect.Rate c rate) = c < length board.clocks
IsReportable board (effect.Enabled c enabled) = c < length board.clocks

-- a thing's value on the board
abbrev pub value_at_start : Board → Thing → ℕ
value_at_start board (State d) = if (domain_at board d).on then state_on else state_off
value_at_start board (Rate c) = (clock_at board c).rate
value_at_start board (Enabled c) = bit_value (clock_at board c).enabled

-- the value that a change gives to a thing, if it is that one
abbrev pub value_in : Thing → Change → Option ℕ
value_in t change = if same_thing change.thing t then Some change.value else None

-- a thing's value: the latest that a change gave it, else the board's
abbrev pub value : Board → Thing → List Deed → ℕ
value board t h = latest (value_at_start board t) (filter_map (value_in t) (changes board h))
