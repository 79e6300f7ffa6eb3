use Rattle.scmi_core.proofs.platform_core.Core.take_over.Goals as goal

pub invariant_of-self : goal.invariant_of-self
invariant_of-self c = rw c.push_reported.ensures.events
    (c.take_over.ensures.event c.self.inside.trace.events c.self.invariant)

pub returns-clause-legal : goal.returns-clause-legal
returns-clause-legal c = (invariant_of-self c).legal
