-- The clock protocol as the relation that each protocol is.
use Rattle.std.specs.Prelude.{ℕ, Bool, false, not, Option, None, option_map}
use Rattle.std.specs.Option.{option_or}
use Rattle.scmi_codec.specs.declared.clock_command.ClockCommand.{ClockCommand}
use Rattle.scmi_plan.specs.declared.effect.Effect.{Effect}
use Rattle.scmi_plan.specs.declared.effect.Effect.TheVariants as effect
use Rattle.scmi_plan.specs.declared.resource.Resource.{Resource}
use Rattle.scmi_plan.specs.declared.resource.Resource.TheVariants as resource
use Rattle.scmi_base.specs.Protocol.{Protocol}
use Rattle.scmi_clock.specs.ClockReply.{ClockView, clock_reply}
use Rattle.scmi_clock.specs.ClockTable.{enabled_now, only_reads, rate_later, rate_now}

-- a clock that is given a rate, or else one that is enabled or disabled
abbrev pub clock_effect : Option (ℕ × ℕ) → Option (ℕ × Bool) → Option Effect
clock_effect rate enabled = option_or (option_map (λ set. effect.Rate set.0 set.1) rate)
    (option_map (λ set. effect.Enabled set.0 set.1) enabled)

-- a clock and a rate that it is given later
abbrev pub later_effect : ℕ × ℕ × Bool → Effect
later_effect set = effect.Rate set.0 set.1

-- whether the caller may change a clock
abbrev pub may_in : ClockView → Resource → Bool
may_in v (resource.Domain d) = false
may_in v (resource.Clock c) = v.may c

-- whether a set of a clock is pending
abbrev pub busy_in : ClockView → Resource → Bool
busy_in v (resource.Domain d) = false
busy_in v (resource.Clock c) = v.busy c

-- whether a change switches a clock off
abbrev pub switches_off : Effect → Bool
switches_off (effect.Enabled c enabled) = not enabled
switches_off _ = false

abbrev pub clock_protocol : Protocol ClockView ClockCommand
clock_protocol = record {
  may = may_in;
  busy = busy_in;
  room = λ v. v.room;
  channel = λ v. v.channel;
  reply = clock_reply;
  now = λ board c. clock_effect (rate_now board c) (enabled_now c);
  later = λ board c. option_map later_effect (rate_later board c);
  only_reads = only_reads;
  request = λ a d caller c. None;
  switches_off = switches_off;
}
