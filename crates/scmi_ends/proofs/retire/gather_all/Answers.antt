use Rattle.std.proofs.Common.{◌≡◌, arith}
use Rattle.scmi_ends.specs.AgentView.{IsOfLink}
use Rattle.scmi_ends.specs.Headline.{AreGathered}
use Rattle.scmi_ends.proofs.Gathering.{zip_rest, gathered_step}
use Rattle.scmi_ends.proofs.retire.gather_all.Goals as goal

pub ends-preserved : goal.ends-preserved
ends-preserved g c =
    let kept = c.ends.invariant in
    let commands : AreGathered c.remove.result.caller
    (g.C.Channel.callee_view c.remove-callee.result) = (
      rw c.into_ends-caller.ensures.views.0 at c.gather-rest.ensures.agree,
      rw c.into_ends-caller.ensures.views.0 at c.gather-rest.ensures.closed,
    ) in
    let messages : AreGathered
    (g.C.Channel.caller_view c.remove-sender.result) c.remove.result.callee = (
      rw c.into_ends-caller.ensures.views.1 at c.gather-rest-in-ends.ensures.agree,
      rw c.into_ends-caller.ensures.views.1 at c.gather-rest-in-ends.ensures.closed,
    ) in
    record {
      agents = zip_rest (λ k e. IsOfLink (g.C.Channel.identity k.a2p) (g.C.Channel.identity k.p2a)
          e) c.ends.links.items c.remove-a2p.new.self.items c.ends.agents.items
          c.remove.new.self.items kept.agents c.remove-a2p.ensures.items c.remove.ensures.items;
      callees = zip_rest
          (λ k d. g.C.Channel.callee_identity d ≡ g.C.Channel.identity k.a2p) c.ends.links.items
          c.remove-a2p.new.self.items c.ends.callees.items c.remove-callee.new.self.items
          kept.callees c.remove-a2p.ensures.items c.remove-callee.ensures.items;
      callers = zip_rest
          (λ k e. g.C.Channel.caller_identity e ≡ g.C.Channel.identity k.p2a) c.ends.links.items
          c.remove-a2p.new.self.items c.ends.callers.items c.remove-sender.new.self.items
          kept.callers c.remove-a2p.ensures.items c.remove-sender.ensures.items;
      rest = λ more. kept.rest (gathered_step g.C.Channel.callee_view g.C.Channel.caller_view
          c.ends.agents.items c.remove.new.self.items c.remove.result c.ends.callees.items
          c.remove-callee.new.self.items c.remove-callee.result c.ends.callers.items
          c.remove-sender.new.self.items c.remove-sender.result
          (omega (arith, c.remove-callee.ensures.len, c.ends.callees.ok.0))
          (omega (arith, c.remove-sender.ensures.len, c.ends.callers.ok.0))
          c.remove.ensures.items c.remove.ensures.value c.remove-callee.ensures.items
          c.remove-callee.ensures.value c.remove-sender.ensures.items
          c.remove-sender.ensures.value
          commands messages
          more);
    }
