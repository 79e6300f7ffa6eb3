-- The power domain protocol as the relation that each protocol is.
use Rattle.std.specs.Prelude.{ℕ, ◌==◌, Bool, false, option_map}
use Rattle.scmi_codec.specs.declared.power_command.PowerCommand.{PowerCommand}
use Rattle.scmi_plan.specs.declared.effect.Effect.{Effect}
use Rattle.scmi_plan.specs.declared.effect.Effect.TheVariants as effect
use Rattle.scmi_plan.specs.declared.resource.Resource.{Resource}
use Rattle.scmi_plan.specs.declared.resource.Resource.TheVariants as resource
use Rattle.scmi_base.specs.Protocol.{Protocol}
use Rattle.scmi_power.specs.PowerReply.{PowerView, power_reply, state_off}
use Rattle.scmi_power.specs.PowerTable.{notification, only_reads, set_later, set_now}

-- a domain and a state that it is given
abbrev pub state_effect : ℕ × ℕ → Effect
state_effect set = effect.State set.0 set.1

-- whether the caller may change a domain
abbrev pub may_in : PowerView → Resource → Bool
may_in v (resource.Domain d) = v.may d
may_in v (resource.Clock c) = false

-- whether a set of a domain is pending
abbrev pub busy_in : PowerView → Resource → Bool
busy_in v (resource.Domain d) = v.busy d
busy_in v (resource.Clock c) = false

-- whether a change switches a domain off
abbrev pub switches_off : Effect → Bool
switches_off (effect.State d state) = state == state_off
switches_off _ = false

abbrev pub power_protocol : Protocol PowerView PowerCommand
power_protocol = record {
  may = may_in;
  busy = busy_in;
  room = λ v. v.room;
  channel = λ v. v.channel;
  reply = power_reply;
  now = λ board c. option_map state_effect (set_now c);
  later = λ board c. option_map state_effect (set_later c);
  only_reads = only_reads;
  request = notification;
  switches_off = switches_off;
}
