use Rattle.std.proofs.Common.{refl, arith}
use Rattle.scmi_ends.proofs.Together.{of_link, stays}
use Rattle.scmi_tests.proofs.probe.session.Session.look.Goals as goal

pub collect_into-requires-after_bounds : goal.collect_into-requires-after_bounds
collect_into-requires-after_bounds g c κs within = of_link g.C.Channel.identity
    c.self.inside.links.items c.self.inside.controller c.self.inside.agents.items
    0 c.index_mut.result.now c.self.invariant (omega (arith, c.requires, c.self.view_is))
    c.index_mut.ensures.value c.index.result.now c.index.ensures

pub invariant_of-self : goal.invariant_of-self
invariant_of-self g c = stays g.C.Channel.identity c.self.inside.links.items
    c.self.inside.controller c.self.inside.agents.items 0 c.index_mut.result.now c.self.invariant
    (omega (arith, c.requires, c.self.view_is)) c.index_mut.ensures.value c.collect_into.new.self
    (rw c.collect_into.ensures.same (record { a2p = refl; p2a = refl }))
