use Rattle.scmi_core.proofs.platform_core.Core.advance.Goals as goal

pub invariant_of-self-2 : goal.invariant_of-self-2
invariant_of-self-2 c = rw (c.push_advance.ensures.events, c.reserve.ensures.events)
    (c.complete.ensures.event c.self.inside.trace.events c.self.invariant)

pub returns-clause-legal : goal.returns-clause-legal
returns-clause-legal c = (invariant_of-self-2 c).legal
