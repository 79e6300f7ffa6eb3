use Rattle.std.proofs.Common.{◌≡◌, vec_len, map, replicate, None}
use Rattle.scmi_link.specs.View.{new_caller, new_callee}
use Rattle.scmi_ends.specs.Each.{AllFrom}
use Rattle.scmi_ends.specs.AgentView.{IsNewAgent}
use Rattle.scmi_ends.proofs.connecting.connect.Given as goal

-- what was made so far goes together, and is new
abbrev pub invariant-loop-index : goal.invariant-loop-index
invariant-loop-index g l = record {
  callees : map g.C.Channel.callee_view l.callees.items ≡ replicate l.index new_callee;
  callers : map g.C.Channel.caller_view l.callers.items ≡ replicate l.index new_caller;
  a2p : map g.C.Channel.callee_identity l.callees.items
      ≡ map (λ k. g.C.Channel.identity k.a2p) l.links.items;
  p2a : map g.C.Channel.caller_identity l.callers.items
      ≡ map (λ k. g.C.Channel.identity k.p2a) l.links.items;
  agents_a2p : map (λ e. e.a2p_identity) l.agents.items
      ≡ map (λ k. g.C.Channel.identity k.a2p) l.links.items;
  agents_p2a : map (λ e. e.p2a_identity) l.agents.items
      ≡ map (λ k. g.C.Channel.identity k.p2a) l.links.items;
  agents : AllFrom IsNewAgent 1 l.agents.items;
  closed_at : l.closed_at.items ≡ replicate l.index None;
  links_made : vec_len l.links ≡ l.index;
  agents_made : vec_len l.agents ≡ l.index;
}
