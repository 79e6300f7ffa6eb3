use Rattle.std.proofs.Common.{◌<◌, length, subst}
use Rattle.scmi_core.proofs.platform_core.Core.sent.Goals as goal

pub mark_sent-requires-clause-some : goal.mark_sent-requires-clause-some
mark_sent-requires-clause-some c =
    let agent = c.in_ok-check_agent.ensures.ok in
    rw c.reserve.ensures.events
    (subst (λ messages. 0 < length messages) (c.self.invariant.outboxes c.args.agent agent.0
    agent.1) (c.is_empty.ensures.some c.if-is_empty.false))
