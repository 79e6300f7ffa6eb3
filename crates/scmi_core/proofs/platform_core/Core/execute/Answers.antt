use Rattle.std.proofs.Common.{◌≤◌, length, subst, sym, arith}
use Rattle.scmi_core.proofs.platform_core.Core.execute.Goals as goal

pub invariant_of-self : goal.invariant_of-self
invariant_of-self c = rw (c.push_command.ensures.events)
    (c.execute-answered.ensures.event c.self.inside.trace.events c.self.invariant)

pub returns-clause-answer : goal.returns-clause-answer
returns-clause-answer c = rw (← c.self.view_is)
    (c.execute-answered.ensures.answer c.self.inside.trace.events c.self.invariant)

pub returns-clause-legal : goal.returns-clause-legal
returns-clause-legal c = (invariant_of-self c).legal

pub push_command-requires-clause-agent : goal.push_command-requires-clause-agent
push_command-requires-clause-agent c =
    let last : c.args.agent ≤ length c.self.inside.platform.board.agents =
    subst (λ p. c.args.agent ≤ length p.board.agents) (sym c.self.view_is) c.requires.agent.1 in
    let few = c.execute-answered.ensures.valid.few_agents in
    omega (arith, last, few)
