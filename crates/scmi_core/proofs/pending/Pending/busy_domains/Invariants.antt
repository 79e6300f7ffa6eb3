use Rattle.std.proofs.Common.{◌≡◌, ◌<◌, ◌==◌, ℕ, take}
use Rattle.std.specs.List.{list_any}
use Rattle.std.specs.Int.{bit_at}
use Rattle.scmi_plan.specs.declared.resource.Resource.TheVariants as resource
use Rattle.scmi_core.specs.Pending.{is_set_by}
use Rattle.scmi_core.proofs.pending.Pending.busy_domains.Given as goal

abbrev pub invariant-loop-set : goal.invariant-loop-set
invariant-loop-set l = record {
  marked : (d : ℕ) → d < 32 → (bit_at l.busy d == 1)
      ≡ list_any (λ p. is_set_by (resource.Domain d) p.setting) (take l.set-index l.sets);
}
