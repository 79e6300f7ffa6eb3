use Rattle.std.proofs.Common.{arith}
use Rattle.scmi_ends.proofs.Together.{of_link, stays}
use Rattle.scmi_tests.proofs.probe.session.Session.ask.Goals as goal

pub ask-requires-after_bounds : goal.ask-requires-after_bounds
ask-requires-after_bounds g c κs within = of_link g.C.Channel.identity c.self.inside.links.items
    c.self.inside.controller c.self.inside.agents.items 0 c.index_mut.result.now c.self.invariant
    (omega (arith, c.requires, c.self.view_is)) c.index_mut.ensures.value c.index.result.now
    c.index.ensures

pub invariant_of-self : goal.invariant_of-self
invariant_of-self g c = stays g.C.Channel.identity c.self.inside.links.items
    c.self.inside.controller c.self.inside.agents.items 0 c.index_mut.result.now c.self.invariant
    (omega (arith, c.requires, c.self.view_is)) c.index_mut.ensures.value c.ask.new.end
    c.ask.ensures
