use Rattle.std.proofs.Common.{◌≡◌, length, true, false, refl, ap, sym, ◌∙◌}
use Rattle.std.proofs.lemmas.List.{take_more_same}
use Rattle.std.proofs.lemmas.Option.{get_or_from_slice_get, slice_get_within}
use Rattle.scmi_core.proofs.Windows.{length-window}
use Rattle.scmi_core.proofs.message_ring.MessageRing.is_same.Goals as goal

pub returns-then-self-other : goal.returns-then-self-other
returns-then-self-other c =
    let r = c.self.inside in
    let s = c.other.inside in
    let mine = length-window 16 r.oldest r.count r.slots c.self.invariant.0 c.self.invariant.1
    c.self.invariant.2 in
    let its = length-window 16 s.oldest s.count s.slots c.other.invariant.0 c.other.invariant.1
    c.other.invariant.2 in (
      λ (is : false ≡ true). absurd (cc),
      λ same. absurd (c.if-self-other.true
          (sym mine ∙ ap length (c.self.view_is ∙ same ∙ sym c.other.view_is) ∙ its)),
    )

pub messages-preserved : goal.messages-preserved
messages-preserved c =
    let xs = c.args.self.now in
    let ys = c.args.other.now in
    let i = c.messages.index in
    let x = c.at.result.now in
    let mine = get_or_from_slice_get xs i x x c.at.ensures in
    let its = get_or_from_slice_get ys i c.at-in-messages.result.now x c.at-in-messages.ensures in
    take_more_same xs ys i x
    (slice_get_within xs i x c.at.ensures)
    (slice_get_within ys i c.at-in-messages.result.now c.at-in-messages.ensures)
    c.messages.invariant (mine ∙ c.if-not-is_same.ensures.0 refl ∙ sym its)
