use Rattle.std.proofs.Common.{length, sym, ap, ◌∙◌}
use Rattle.scmi_core.proofs.Windows.{length-window}
use Rattle.scmi_core.proofs.message_ring.MessageRing.len.Goals as goal

pub returns-clause-count : goal.returns-clause-count
returns-clause-count c =
    let r = c.self.inside in
    sym (length-window 16 r.oldest r.count r.slots c.self.invariant.0 c.self.invariant.1
    c.self.invariant.2) ∙ ap length c.self.view_is
