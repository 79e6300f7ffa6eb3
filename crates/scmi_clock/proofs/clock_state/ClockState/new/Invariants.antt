use Rattle.std.proofs.Common.{◌≡◌, ℕ, ◌<◌, length, get_or, false}
use Rattle.scmi_plan.specs.Board.{clock_at}
use Rattle.scmi_plan.specs.declared.limits.TheConstants.{CLOCKS}
use Rattle.scmi_clock.proofs.clock_state.ClockState.new.Given as goal

abbrev pub invariant-loop-clock : goal.invariant-loop-clock
invariant-loop-clock l = record {
  rates : length l.rates ≡ CLOCKS;
  enabled : length l.enabled ≡ CLOCKS;
  rates_started : (c : ℕ) → c < l.clock → get_or l.rates c 0 ≡ (clock_at l.plan c).rate;
  enabled_started : (c : ℕ) → c < l.clock → get_or l.enabled c false ≡ (clock_at l.plan c).enabled;
}
