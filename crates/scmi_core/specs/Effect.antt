-- What a history changes of the hardware.
use Rattle.std.specs.Prelude.{ℕ, ◌==◌, ◌&&◌, ◌||◌, Bool, false, if◌then◌else◌, List, Option, None, option_map, map}
use Rattle.scmi_codec.specs.declared.header.Header.{Header}
use Rattle.scmi_codec.specs.declared.message.Message.{Message}
use Rattle.scmi_codec.specs.declared.frame.Frame.{Frame}
use Rattle.scmi_codec.specs.declared.frame.Frame.TheVariants.{Good, Malformed}
use Rattle.scmi_plan.specs.Board.{Board}
use Rattle.scmi_plan.specs.declared.effect.Effect.{Effect}
use Rattle.scmi_plan.specs.declared.effect.Effect.TheVariants as effect
use Rattle.scmi_core.specs.declared.event.Event.{Event}
use Rattle.scmi_core.specs.Deed.{success_of}
use Rattle.scmi_core.specs.History.{deeds, deed_after}
use Rattle.scmi_core.specs.ReadCommand.{command_on}
use Rattle.scmi_core.specs.Reply.{fits_channel, reply_words}
use Rattle.scmi_core.specs.Situation.{Situation}
use Rattle.scmi_core.specs.Value.{Change, Enabled, Rate, State, Thing, change_by, change_of, changes, commanded_changes}

-- a change as the hardware sees it: a thing and its new value, whoever caused it
abbrev pub effect_of : Change → Effect
effect_of change = given_to change.thing where
  given_to : Thing → Effect
  given_to (State d) = effect.State d change.value
  given_to (Rate c) = effect.Rate c change.value
  given_to (Enabled c) = effect.Enabled c (change.value == 1)

-- the effect that an event has after a history, if it has one
abbrev pub effect_after : Board → List Event → Event → Option Effect
effect_after board h event =
    option_map effect_of (change_by board (deeds board h) (deed_after board (deeds board h) event))

-- the header of a command that may change hardware: POWER_STATE_SET, CLOCK_RATE_SET or
-- CLOCK_CONFIG_SET
abbrev pub is_set_header : Header → Bool
is_set_header header = header.protocol == 0x11 && header.id == 0x4 || header.protocol == 0x14
    && (header.id == 0x5 || header.id == 0x7)

-- a frame with such a header
abbrev pub is_set_frame : Frame → Bool
is_set_frame (Good m) = is_set_header m.header
is_set_frame (Malformed _ _) = false

-- the effects of a history, in order
unfoldable pub effects : Board → List Event → List Effect
effects board h = map effect_of (changes board (deeds board h))

-- the effects of a history but those that the hardware reported, in order
unfoldable pub commanded_effects : Board → List Event → List Effect
commanded_effects board h = map effect_of (commanded_changes board (deeds board h))

-- the effect of a message of agent a that is read, by the agent's situation
abbrev pub effect_read : Board → ℕ → Message → Situation → Option Effect
effect_read board a m s = option_map effect_of (change_of board
    (success_of a m.header (command_on board m) (reply_words board a s (command_on board m))) None)

-- the effect of a frame of agent a, by the agent's situation; one that is longer than its channel
-- has none
abbrev pub effect_in : Board → ℕ → Frame → Situation → Option Effect
effect_in board a (Good m) s = if fits_channel board a m then effect_read board a m s else None
effect_in board a (Malformed len header) s = None
