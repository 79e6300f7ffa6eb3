use Rattle.std.proofs.Common.{◌-◌, ap, arith, length}
use Rattle.scmi_ends.proofs.Together.{of_link, stays}
use Rattle.scmi_modes.proofs.session.Session.call.Goals as goal

pub call-requires-after_bounds : goal.call-requires-after_bounds
call-requires-after_bounds g c κs within = of_link g.C.Channel.identity c.self.inside.links.items
    c.self.inside.controller c.self.inside.agents.items (c.args.agent - 1) c.index_mut.result.now
    c.self.invariant (omega (arith, c.requires, ap (λ v. length v.agents) c.self.view_is))
    c.index_mut.ensures.value c.index.result.now c.index.ensures

pub invariant_of-self : goal.invariant_of-self
invariant_of-self g c = stays g.C.Channel.identity c.self.inside.links.items
    c.self.inside.controller c.self.inside.agents.items (c.args.agent - 1) c.index_mut.result.now
    c.self.invariant (omega (arith, c.requires, ap (λ v. length v.agents) c.self.view_is))
    c.index_mut.ensures.value c.call.new.end c.call.ensures.identities
