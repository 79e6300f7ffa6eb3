use Rattle.std.proofs.Common.{◌≡◌, rules}
use Rattle.scmi_agent.proofs.Replies.{is_reply, same_unless}
use Rattle.scmi_agent.proofs.agent.Agent.reply.Goals as goal

pub returns-clause-own : goal.returns-clause-own
returns-clause-own c =
    let same : c.in_ok-message.message.header ≡ c.in-Some.header = search (rules, same_unless) in
    rw c.in-Some.is
    (is_reply c.in-Some.header c.args.area.now c.in_ok-message.message c.as_slice.result.now
    c.in_ok-reply.reply
    c.in_ok-message.ensures.free c.in_ok-message.ensures.frame same c.as_slice.ensures.value
    c.in_ok-reply.ensures.value)
