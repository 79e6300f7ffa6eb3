use Rattle.std.proofs.Common.{◌≡◌, map, ap, ◌∙◌}
use Rattle.scmi_ends.specs.AgentView.{IsOfLink}
use Rattle.scmi_ends.proofs.Lists.{zip_of_maps, zip_both}
use Rattle.scmi_ends.proofs.Headlines.{headlines}
use Rattle.scmi_ends.proofs.controller.Controller.gather_ends.Goals as goal

pub gather_all-requires-clause-agents : goal.gather_all-requires-clause-agents
gather_all-requires-clause-agents g c κs inside =
    zip_both (λ l e. e.a2p_identity ≡ g.C.Channel.identity l.a2p) (λ l e. e.p2a_identity
    ≡ g.C.Channel.identity l.p2a) (λ l e. IsOfLink (g.C.Channel.identity l.a2p)
    (g.C.Channel.identity l.p2a) e) (λ l e p q. record { of_a2p = p; of_p2a = q })
    c.args.links.items c.args.agents.items
    (zip_of_maps (λ e. e.a2p_identity)
    (λ l. g.C.Channel.identity l.a2p) c.args.agents.items c.args.links.items c.requires.ends.0)
    (zip_of_maps (λ e. e.p2a_identity)
    (λ l. g.C.Channel.identity l.p2a) c.args.agents.items c.args.links.items c.requires.ends.1)

pub gather_all-requires-clause-callees : goal.gather_all-requires-clause-callees
gather_all-requires-clause-callees g c κs inside = zip_of_maps g.C.Channel.callee_identity
    (λ l. g.C.Channel.identity l.a2p) c.self.inside.callees.items c.args.links.items
    (ap (λ v. v.a2p_identities) c.self.view_is ∙ c.requires.links.of_a2p)

pub gather_all-requires-clause-callers : goal.gather_all-requires-clause-callers
gather_all-requires-clause-callers g c κs inside = zip_of_maps g.C.Channel.caller_identity
    (λ l. g.C.Channel.identity l.p2a) c.self.inside.callers.items c.args.links.items
    (ap (λ v. v.p2a_identities) c.self.view_is ∙ c.requires.links.of_p2a)

pub returns-clause-headline : goal.returns-clause-headline
returns-clause-headline g c = rw (← c.self.view_is) (headlines c.self.inside.core.board
    c.self.inside.core.history 1 c.args.agents.items (map g.C.Channel.callee_view
    c.self.inside.callees.items) (map g.C.Channel.caller_view c.self.inside.callers.items)
    c.self.invariant.served c.self.invariant.delivers c.gather_all.ensures)
