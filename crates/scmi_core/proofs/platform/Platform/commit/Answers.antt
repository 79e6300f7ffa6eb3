use Rattle.std.proofs.Common.{◌≡◌, ◌≤◌, ◌++◌, ◌∷◌, [], Some, length, sym, subst, ◌∙◌}
use Rattle.scmi_core.specs.Effect.{effect_after}
use Rattle.scmi_core.specs.Standing.{StandsAfter}
use Rattle.scmi_core.specs.declared.event.Event.TheVariants.{Command as Called}
use Rattle.scmi_core.proofs.Ties.{Agrees-answered, answer-table, effect-table}
use Rattle.scmi_core.proofs.platform.Platform.commit.Goals as goal

pub commit-requires-clause-effect : goal.commit-requires-clause-effect
commit-requires-clause-effect c =
    let last : c.args.agent ≤ length c.self.inside.plan.agents =
    subst (λ p. c.args.agent ≤ length p.board.agents) (sym c.self.view_is) c.requires.agent.1 in
    let h = c.requires.effect.0 in
    let after : effect_after c.self.inside.plan h (Called c.args.agent c.args.frame.now)
    ≡ Some c.args.effect =
    subst (λ p. effect_after p.board h (Called c.args.agent c.args.frame.now) ≡ Some c.args.effect)
    (sym c.self.view_is)
    c.requires.effect.2 in
    effect-table c.self.inside.plan c.self.inside.tables h c.args.agent c.args.frame.now
    (subst (λ p. StandsAfter p h) (sym c.self.view_is) c.requires.effect.1)
    c.agents-agents.ensures.valid c.requires.agent.0 last ∙ after

pub invariant_of-self : goal.invariant_of-self
invariant_of-self c =
    let last : c.args.agent ≤ length c.self.inside.plan.agents =
    subst (λ p. c.args.agent ≤ length p.board.agents) (sym c.self.view_is) c.requires.agent.1 in (
      c.self.invariant.0 ++ Called c.args.agent c.args.frame.now ∷ [],
      Agrees-answered c.self.inside.plan c.self.inside.tables c.commit.new.self c.self.invariant.0
          c.args.agent c.args.frame.now
          c.self.invariant.1 c.agents-agents.ensures.valid c.requires.agent.0 last
          c.commit.ensures.stepped,
    )

pub returns-clause-answer : goal.returns-clause-answer
returns-clause-answer c = λ h stands.
    let last : c.args.agent ≤ length c.self.inside.plan.agents =
    subst (λ p. c.args.agent ≤ length p.board.agents) (sym c.self.view_is) c.requires.agent.1 in
    rw (← c.self.view_is)
    (c.commit.ensures.answer
    ∙ answer-table c.self.inside.plan c.self.inside.tables h c.args.agent c.args.frame.now
    (subst (λ p. StandsAfter p h) (sym c.self.view_is) stands)
    c.agents-agents.ensures.valid c.requires.agent.0 last)

pub returns-clause-event : goal.returns-clause-event
returns-clause-event c = λ h stands.
    let last : c.args.agent ≤ length c.self.inside.plan.agents =
    subst (λ p. c.args.agent ≤ length p.board.agents) (sym c.self.view_is) c.requires.agent.1 in
    Agrees-answered c.self.inside.plan c.self.inside.tables c.commit.new.self h c.args.agent
    c.args.frame.now
    (subst (λ p. StandsAfter p h) (sym c.self.view_is) stands) c.agents-agents.ensures.valid
    c.requires.agent.0 last c.commit.ensures.stepped
