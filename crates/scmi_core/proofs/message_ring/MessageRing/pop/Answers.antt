use Rattle.std.proofs.Common.{◌<◌, length, drop, ap, ◌∙◌, arith}
use Rattle.scmi_core.proofs.Windows.{length-window, window-pop}
use Rattle.scmi_core.proofs.message_ring.MessageRing.pop.Goals as goal

pub returns : goal.returns
returns c =
    let r = c.self.inside in
    let old = length-window 16 r.oldest r.count r.slots c.self.invariant.0 c.self.invariant.1
    c.self.invariant.2 in
    let same = ap length c.self.view_is in
    let some : 0 < r.count = omega (arith, c.requires, old, same) in
    window-pop 16 r.oldest r.count r.slots c.self.invariant.0 c.self.invariant.1
    c.self.invariant.2 some
    ∙ ap (drop 1) c.self.view_is
