use Rattle.std.proofs.Common.{◌≡◌, ◌≤◌, Some, length, subst, sym, arith}
use Rattle.scmi_core.specs.Effect.{effect_after}
use Rattle.scmi_core.specs.declared.event.Event.TheVariants.{Command as Called}
use Rattle.scmi_core.proofs.platform_core.Core.commit.Goals as goal

pub commit-answered-requires-clause-effect : goal.commit-answered-requires-clause-effect
commit-answered-requires-clause-effect c = (
  c.self.inside.trace.events,
  c.self.invariant,
  subst (λ p. effect_after p.board p.history (Called c.args.agent c.args.frame.now)
      ≡ Some c.args.effect) (sym c.self.view_is) c.requires.effect,
)

pub invariant_of-self : goal.invariant_of-self
invariant_of-self c = rw (c.push_command.ensures.events)
    (c.commit-answered.ensures.event c.self.inside.trace.events c.self.invariant)

pub returns-clause-answer : goal.returns-clause-answer
returns-clause-answer c = rw (← c.self.view_is)
    (c.commit-answered.ensures.answer c.self.inside.trace.events c.self.invariant)

pub returns-clause-legal : goal.returns-clause-legal
returns-clause-legal c = (invariant_of-self c).legal

pub push_command-requires-clause-agent : goal.push_command-requires-clause-agent
push_command-requires-clause-agent c =
    let last : c.args.agent ≤ length c.self.inside.platform.board.agents =
    subst (λ p. c.args.agent ≤ length p.board.agents) (sym c.self.view_is) c.requires.agent.1 in
    let few = c.commit-answered.ensures.valid.few_agents in
    omega (arith, last, few)
