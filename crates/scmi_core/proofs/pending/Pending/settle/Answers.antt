use Rattle.std.proofs.Common.{◌≡◌, ◌<◌, ◌+◌, suc, length, get_or, set, ap, ◌∙◌, arith}
use Rattle.scmi_core.specs.Pending.{settled}
use Rattle.scmi_core.proofs.Mapped.{mapped-more, mapped-next, mapped_to}
use Rattle.scmi_core.proofs.pending.Pending.settle.Goals as goal

pub loop-set-preserved : goal.loop-set-preserved
loop-set-preserved c =
    let f = settled c.args.clock c.args.rate in
    let sets = c.as_mut_slice-sets.result.now in
    let i = c.loop-set.set-index in
    let none = c.set-item.result in
    let inside : i < length sets = omega arith in
    let one : suc i ≡ i + 1 = omega arith in
    ap (λ setting. set c.loop-set.sets i
    (record (get_or c.loop-set.sets i none) { setting = setting })) c.with_rate-set.ensures
    ∙ ap (λ xs. set xs i (f (get_or xs i none))) c.loop-set.invariant
    ∙ ap (λ p. set (mapped_to f i sets) i (f p)) (mapped-next f i sets none inside)
    ∙ mapped-more f i sets none inside
    ∙ ap (λ n. mapped_to f n sets) one
