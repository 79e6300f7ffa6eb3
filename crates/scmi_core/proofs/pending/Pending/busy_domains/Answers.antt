use Rattle.std.proofs.Common.{◌∙◌, ap, sym, ◌==◌, ◌||◌, take}
use Rattle.std.specs.List.{list_any}
use Rattle.std.specs.Int.{bit_at}
use Rattle.scmi_plan.specs.declared.resource.Resource.TheVariants as resource
use Rattle.scmi_core.specs.Pending.{is_set_by}
use Rattle.scmi_core.proofs.Masks.{any-more}
use Rattle.scmi_core.proofs.pending.Pending.busy_domains.Goals as goal
use Rattle.scmi_core.proofs.pending.Pending.busy_domains.Goals.{in-State, in-Rate}

pub loop-set-preserved : goal.loop-set-preserved
loop-set-preserved c = record {
  marked = λ d small.
      let i = c.loop-set.set-index in
      let sets = c.as_slice-sets.result.now in
      let more = any-more (λ p. is_set_by (resource.Domain d) p.setting) i sets c.set-item.result
      c.loop-set-test.true c.set-item.is in
      let old = list_any (λ p. is_set_by (resource.Domain d) p.setting) (take i sets) in
      elim c.match-set.branch [
        | in-State w ↦ ap (λ n. bit_at n d == 1) w.busy-is ∙ w.mark-busy.ensures d small
            ∙ ap (λ b. (d == w.in-State.domain) || b) (c.loop-set.invariant.marked d small)
            ∙ ap (λ st. is_set_by (resource.Domain d) st || old) (sym w.in-State.is) ∙ sym more
        | in-Rate w ↦ ap (λ n. bit_at n d == 1) w.busy-is ∙ c.loop-set.invariant.marked d small
            ∙ ap (λ st. is_set_by (resource.Domain d) st || old) (sym w.in-Rate.is) ∙ sym more
      ];
}
