use Rattle.std.proofs.Common.{◌≡◌, vec_len, map}
use Rattle.std.specs.List.{AllZip}
use Rattle.scmi_ends.specs.AgentView.{IsOfLink}
use Rattle.scmi_ends.specs.Headline.{AllGathered}
use Rattle.scmi_ends.proofs.retire.gather_all.Given as goal

-- the endpoints that are left go with their links, and if they agree once gathered, all do
abbrev pub invariant-ends : goal.invariant-ends
invariant-ends g l = record {
  agents : AllZip (λ k e. IsOfLink (g.C.Channel.identity k.a2p) (g.C.Channel.identity k.p2a) e)
      l.links.items l.agents.items;
  callees : AllZip (λ k d. g.C.Channel.callee_identity d ≡ g.C.Channel.identity k.a2p) l.links.items
      l.callees.items;
  callers : AllZip (λ k c. g.C.Channel.caller_identity c ≡ g.C.Channel.identity k.p2a) l.links.items
      l.callers.items;
  rest : AllGathered l.agents.items (map g.C.Channel.callee_view l.callees.items)
      (map g.C.Channel.caller_view l.callers.items) → AllGathered l.fn.agents.items (map
      g.C.Channel.callee_view l.fn.callees.items) (map g.C.Channel.caller_view l.fn.callers.items);
}

abbrev pub decreases-ends : goal.decreases-ends
decreases-ends g l = vec_len l.links
