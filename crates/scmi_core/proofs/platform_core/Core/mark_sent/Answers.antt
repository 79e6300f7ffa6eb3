use Rattle.std.proofs.Common.{◌<◌, ◌≤◌, length, subst, sym, arith}
use Rattle.scmi_core.specs.History.{outbox}
use Rattle.scmi_core.proofs.platform_core.Core.mark_sent.Goals as goal

pub take-requires-clause-some : goal.take-requires-clause-some
take-requires-clause-some c =
    let last : c.args.agent ≤ length c.self.inside.platform.board.agents =
    subst (λ p. c.args.agent ≤ length p.board.agents) (sym c.self.view_is) c.requires.agent.1 in
    let some : 0 < length
    (outbox c.self.inside.platform.board c.args.agent c.self.inside.trace.events) = subst (λ p.
    0 < length (outbox p.board c.args.agent p.history)) (sym c.self.view_is) c.requires.some in
    subst (λ messages. 0 < length messages)
    (sym (c.self.invariant.outboxes c.args.agent c.requires.agent.0 last)) some

pub push_sent-requires-clause-agent : goal.push_sent-requires-clause-agent
push_sent-requires-clause-agent c =
    let last : c.args.agent ≤ length c.self.inside.platform.board.agents =
    subst (λ p. c.args.agent ≤ length p.board.agents) (sym c.self.view_is) c.requires.agent.1 in
    let few = c.take.ensures.valid.few_agents in
    omega (arith, last, few)

pub invariant_of-self : goal.invariant_of-self
invariant_of-self c =
    rw c.push_sent.ensures.events (c.take.ensures.event c.self.inside.trace.events c.self.invariant)

pub returns-clause-legal : goal.returns-clause-legal
returns-clause-legal c = (invariant_of-self c).legal
