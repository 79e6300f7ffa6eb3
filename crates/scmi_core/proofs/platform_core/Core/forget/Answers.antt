use Rattle.std.proofs.Common.{◌≤◌, length, subst, sym, arith}
use Rattle.scmi_core.proofs.platform_core.Core.forget.Goals as goal

pub push_restarted-requires-clause-agent : goal.push_restarted-requires-clause-agent
push_restarted-requires-clause-agent c =
    let last : c.args.agent ≤ length c.self.inside.platform.board.agents =
    subst (λ p. c.args.agent ≤ length p.board.agents) (sym c.self.view_is) c.requires.agent.1 in
    let few = c.forget.ensures.valid.few_agents in
    omega (arith, last, few)

pub invariant_of-self : goal.invariant_of-self
invariant_of-self c = rw c.push_restarted.ensures.events
    (c.forget.ensures.event c.self.inside.trace.events c.self.invariant)

pub returns-clause-legal : goal.returns-clause-legal
returns-clause-legal c = (invariant_of-self c).legal
