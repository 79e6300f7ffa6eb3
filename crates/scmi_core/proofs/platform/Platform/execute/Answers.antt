use Rattle.std.proofs.Common.{◌≤◌, ◌++◌, ◌∷◌, [], length, sym, subst, ◌∙◌}
use Rattle.scmi_core.specs.Standing.{StandsAfter}
use Rattle.scmi_core.specs.declared.event.Event.TheVariants.{Command as Called}
use Rattle.scmi_core.proofs.Ties.{Agrees-answered, answer-table}
use Rattle.scmi_core.proofs.platform.Platform.execute.Goals as goal

pub invariant_of-self : goal.invariant_of-self
invariant_of-self c =
    let last : c.args.agent ≤ length c.self.inside.plan.agents =
    subst (λ p. c.args.agent ≤ length p.board.agents) (sym c.self.view_is) c.requires.agent.1 in (
      c.self.invariant.0 ++ Called c.args.agent c.args.frame.now ∷ [],
      Agrees-answered c.self.inside.plan c.self.inside.tables c.answer.new.self c.self.invariant.0
          c.args.agent c.args.frame.now
          c.self.invariant.1 c.agents-agents.ensures.valid c.requires.agent.0 last
          c.answer.ensures.stepped,
    )

pub returns-clause-answer : goal.returns-clause-answer
returns-clause-answer c = λ h stands.
    let last : c.args.agent ≤ length c.self.inside.plan.agents =
    subst (λ p. c.args.agent ≤ length p.board.agents) (sym c.self.view_is) c.requires.agent.1 in
    rw (← c.self.view_is)
    (c.answer.ensures.answer
    ∙ answer-table c.self.inside.plan c.self.inside.tables h c.args.agent c.args.frame.now
    (subst (λ p. StandsAfter p h) (sym c.self.view_is) stands)
    c.agents-agents.ensures.valid c.requires.agent.0 last)

pub returns-clause-event : goal.returns-clause-event
returns-clause-event c = λ h stands.
    let last : c.args.agent ≤ length c.self.inside.plan.agents =
    subst (λ p. c.args.agent ≤ length p.board.agents) (sym c.self.view_is) c.requires.agent.1 in
    Agrees-answered c.self.inside.plan c.self.inside.tables c.answer.new.self h c.args.agent
    c.args.frame.now
    (subst (λ p. StandsAfter p h) (sym c.self.view_is) stands) c.agents-agents.ensures.valid
    c.requires.agent.0 last c.answer.ensures.stepped
