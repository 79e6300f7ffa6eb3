use Rattle.std.proofs.Common.{sym, ap, length, ◌∙◌}
use Rattle.scmi_core.proofs.Traces.{length-events_of}
use Rattle.scmi_core.proofs.trace.Trace.len.Goals as goal

pub returns : goal.returns
returns c = sym (length-events_of c.self.inside.count c.self.inside.words.items c.self.invariant)
    ∙ ap (λ t. length t.events) c.self.view_is
