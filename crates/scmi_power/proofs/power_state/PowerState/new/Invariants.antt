use Rattle.std.proofs.Common.{◌≡◌, ℕ, ◌<◌, length, get_or}
use Rattle.scmi_plan.specs.declared.limits.TheConstants.{DOMAINS}
use Rattle.scmi_power.specs.PowerTable.{state_at_start}
use Rattle.scmi_power.proofs.power_state.PowerState.new.Given as goal

abbrev pub invariant-loop-domain : goal.invariant-loop-domain
invariant-loop-domain l = record {
  room : length l.states ≡ DOMAINS;
  started : (d : ℕ) → d < l.domain → get_or l.states d 0 ≡ state_at_start l.plan d;
}
