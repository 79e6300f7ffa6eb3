use Rattle.std.proofs.Common.{◌<◌, length, sym, subst, ap, ◌∙◌}
use Rattle.scmi_core.specs.Pending.{promoted}
use Rattle.scmi_core.proofs.Promotions.{put-first}
use Rattle.scmi_core.proofs.pending.Pending.promote.Goals as goal

pub returns : goal.returns
returns c =
    let place = c.args.place in
    let xs = c.self.inside.sets.items in
    let within : place < length xs =
    subst (λ p. place < length p) (sym c.self.view_is) c.requires in
    put-first xs c.as_mut_slice-sets.result.now c.copy_within.new.self place
    c.index-sets-place.result within c.as_mut_slice-sets.ensures.value c.index-sets-place.is
    c.copy_within.ensures.after
    ∙ ap (promoted place) c.self.view_is
