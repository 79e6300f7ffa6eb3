use Rattle.std.proofs.Common.{◌≡◌, ◌≤◌, length, sym, subst, ◌∙◌}
use Rattle.scmi_core.specs.Effect.{effect_after}
use Rattle.scmi_core.specs.Standing.{HasHistory, StandsAfter}
use Rattle.scmi_core.specs.declared.event.Event.TheVariants.{Command as Called}
use Rattle.scmi_core.proofs.Ties.{effect-table}
use Rattle.scmi_core.proofs.platform.Platform.effect_in.Goals as goal

pub returns-clause-effect : goal.returns-clause-effect
returns-clause-effect c = λ h stands.
    let last : c.args.agent ≤ length c.self.inside.plan.agents =
    subst (λ p. c.args.agent ≤ length p.board.agents) (sym c.self.view_is) c.requires.agent.1 in
    subst (λ p. c.effect_of.result ≡ effect_after p.board h (Called c.args.agent c.args.frame.now))
    c.self.view_is
    (c.effect_of.ensures
    ∙ effect-table c.self.inside.plan c.self.inside.tables h c.args.agent c.args.frame.now
    (subst (λ p. StandsAfter p h) (sym c.self.view_is) stands)
    c.agents-agents.ensures.valid c.requires.agent.0 last)

pub returns-clause-history : goal.returns-clause-history
returns-clause-history c = subst HasHistory c.self.view_is c.self.invariant
