use Rattle.std.proofs.Common.{◌≡◌, ◌+◌, None, length, replicate, arith, ◌∙◌, ap, map, refl}
use Rattle.scmi_link.specs.View.{new_caller, new_callee}
use Rattle.scmi_ends.specs.AgentView.{IsNewAgent}
use Rattle.scmi_ends.specs.Agreement.{EndsAgree}
use Rattle.scmi_ends.proofs.Turns.{from_push}
use Rattle.scmi_ends.proofs.Lists.{maps_push, new_push, same_push}
use Rattle.scmi_ends.proofs.Made.{agrees_new}
use Rattle.scmi_ends.proofs.connecting.connect.Goals as goal
use Rattle.scmi_ends.proofs.connecting.connect.Goals.{After-loop-index}

pub loop-index-preserved : goal.loop-index-preserved
loop-index-preserved g c =
    let kept = c.loop-index.invariant in
    let n = g.C.Channel.identity in
    let link = c.in-Ok-push.ensures.items in
    let callee = c.in-Ok-push-2.ensures.items in
    let caller = c.in-Ok-push-3.ensures.items in
    let agent = c.in-Ok-push-4.ensures.items in
    let made = c.in-Ok.ensures in
    record {
      callees = rw callee (new_push g.C.Channel.callee_view c.loop-index.callees.items
          c.loop-index.index c.in-Ok.callee new_callee kept.callees made.new.1);
      callers = rw caller (new_push g.C.Channel.caller_view c.loop-index.callers.items
          c.loop-index.index c.in-Ok.caller new_caller kept.callers made.new.2);
      a2p = rw (callee, link)
          (maps_push g.C.Channel.callee_identity (λ k. n k.a2p) c.loop-index.callees.items
          c.loop-index.links.items c.in-Ok.callee c.in-Ok.link kept.a2p made.platform.0);
      p2a = rw (caller, link)
          (maps_push g.C.Channel.caller_identity (λ k. n k.p2a) c.loop-index.callers.items
          c.loop-index.links.items c.in-Ok.caller c.in-Ok.link kept.p2a made.platform.1);
      agents_a2p =
          rw (agent, link) (maps_push (λ e. e.a2p_identity) (λ k. n k.a2p) c.loop-index.agents.items
          c.loop-index.links.items c.in-Ok.agent c.in-Ok.link kept.agents_a2p made.agent.of_a2p);
      agents_p2a =
          rw (agent, link) (maps_push (λ e. e.p2a_identity) (λ k. n k.p2a) c.loop-index.agents.items
          c.loop-index.links.items c.in-Ok.agent c.in-Ok.link kept.agents_p2a made.agent.of_p2a);
      agents = rw agent
          (from_push IsNewAgent 1 (c.loop-index.index + 1) c.loop-index.agents.items c.in-Ok.agent
          (omega (arith, c.loop-index.agents.ok.0, kept.agents_made)) kept.agents made.new.0);
      closed_at = rw c.in-Ok-push-5.ensures.items
          (same_push c.loop-index.closed_at.items c.loop-index.index None kept.closed_at);
      links_made = omega (arith, c.in-Ok-push.ensures.len, kept.links_made);
      agents_made = omega (arith, c.in-Ok-push-4.ensures.len, kept.agents_made);
    }

keeps : (g : _) (c : After-loop-index g) → EndsAgree c.args.core.board c.args.core.history
    (map g.C.Channel.callee_view c.loop-index.callees.items)
    (map g.C.Channel.caller_view c.loop-index.callers.items) c.loop-index.closed_at.items
keeps g c = rw (
  c.requires,
  c.loop-index.invariant.callees,
  c.loop-index.invariant.callers,
  c.loop-index.invariant.closed_at,
) (agrees_new c.args.core.board c.loop-index.index (omega
    (arith, c.loop-index-test.false, c.agents-index-end.ensures, c.loop-index.auto.index-end)))

pub invariant_of-result : goal.invariant_of-result
invariant_of-result g c = keeps g (goal.at.invariant_of-result g c).After-loop-index

pub returns-clause-agrees : goal.returns-clause-agrees
returns-clause-agrees g c = keeps g (goal.at.returns-clause-agrees g c).After-loop-index

-- each agent of the board was made
all_made : (g : _) (c : After-loop-index g) → c.loop-index.index ≡ length c.args.core.board.agents
all_made g c =
    omega (arith, c.loop-index-test.false, c.agents-index-end.ensures, c.loop-index.auto.index-end)

pub returns-clause-controller : goal.returns-clause-controller
returns-clause-controller g c =
    let all = all_made g (goal.at.returns-clause-controller g c).After-loop-index in
    let kept = c.loop-index.invariant in (
      refl,
      c.requires,
      kept.callees ∙ ap (λ k. replicate k new_callee) all,
      kept.callers
          ∙ ap (λ k. replicate k new_caller) all,
    )

pub returns-clause-closed_at : goal.returns-clause-closed_at
returns-clause-closed_at g c = c.loop-index.invariant.closed_at ∙ ap (λ k. replicate k None)
    (all_made g (goal.at.returns-clause-closed_at g c).After-loop-index)
