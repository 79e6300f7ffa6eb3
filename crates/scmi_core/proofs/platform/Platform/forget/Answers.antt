use Rattle.std.proofs.Common.{◌≤◌, ◌++◌, ◌∷◌, [], length, sym, subst}
use Rattle.scmi_core.specs.Standing.{StandsAfter}
use Rattle.scmi_core.specs.declared.event.Event.TheVariants.{Restarted}
use Rattle.scmi_core.proofs.Ties.{Agrees-restarted}
use Rattle.scmi_core.proofs.platform.Platform.forget.Goals as goal

pub invariant_of-self : goal.invariant_of-self
invariant_of-self c =
    let last : c.args.agent ≤ length c.self.inside.plan.agents =
    subst (λ p. c.args.agent ≤ length p.board.agents) (sym c.self.view_is) c.requires.agent.1 in (
      c.self.invariant.0 ++ Restarted c.args.agent ∷ [],
      Agrees-restarted c.self.inside.plan c.self.inside.tables c.restart.new.self c.self.invariant.0
          c.args.agent c.self.invariant.1
          c.requires.agent.0 last c.restart.ensures,
    )

pub returns-clause-event : goal.returns-clause-event
returns-clause-event c = λ h stands.
    let last : c.args.agent ≤ length c.self.inside.plan.agents =
    subst (λ p. c.args.agent ≤ length p.board.agents) (sym c.self.view_is) c.requires.agent.1 in
    Agrees-restarted c.self.inside.plan c.self.inside.tables c.restart.new.self h c.args.agent
    (subst (λ p. StandsAfter p h) (sym c.self.view_is) stands)
    c.requires.agent.0 last c.restart.ensures
