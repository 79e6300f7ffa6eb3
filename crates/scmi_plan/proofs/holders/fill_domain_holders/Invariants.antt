use Rattle.std.proofs.Common.{◌≡◌, ℕ, ◌<◌, length, get_or}
use Rattle.scmi_plan.specs.Board.{AreHolders}
use Rattle.scmi_plan.specs.declared.limits.TheConstants.{DOMAINS}
use Rattle.scmi_plan.specs.declared.resource.Resource.TheVariants as resource
use Rattle.scmi_plan.proofs.holders.fill_domain_holders.Given as goal

abbrev pub invariant-loop-domain : goal.invariant-loop-domain
invariant-loop-domain l = record {
  rows : length l.masks ≡ DOMAINS;
  made : (r : ℕ) → r < l.domain → AreHolders l.devices (resource.Domain r) (get_or l.masks r 0);
}
