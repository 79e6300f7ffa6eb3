use Rattle.std.proofs.Common.{◌≡◌, ℕ, ◌<◌, length, get_or}
use Rattle.scmi_plan.specs.Board.{AreHolders}
use Rattle.scmi_plan.specs.declared.limits.TheConstants.{CLOCKS}
use Rattle.scmi_plan.specs.declared.resource.Resource.TheVariants as resource
use Rattle.scmi_plan.proofs.holders.fill_clock_holders.Given as goal

abbrev pub invariant-loop-clock : goal.invariant-loop-clock
invariant-loop-clock l = record {
  rows : length l.masks ≡ CLOCKS;
  made : (r : ℕ) → r < l.clock → AreHolders l.devices (resource.Clock r) (get_or l.masks r 0);
}
