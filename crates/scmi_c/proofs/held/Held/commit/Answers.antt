use Rattle.std.proofs.Common.{rules, [], ◌∷◌, ◌++◌, Some, subst, ap, ◌∙◌}
use Rattle.scmi_core.specs.Asked.{Made}
use Rattle.scmi_plan.specs.declared.effect.Effect.{Effect}
use Rattle.scmi_core.specs.declared.event.Event.{Event}
use Rattle.scmi_core.specs.declared.event.Event.TheVariants.{Command as Called}
use Rattle.scmi_c.specs.Standing.{Held, StandsAt, board_of, HasHistory}
use Rattle.scmi_c.proofs.Driving.{drives_made}
use Rattle.scmi_c.proofs.RateChanges.{clock-known}
use Rattle.scmi_c.proofs.Askable.{still-made}
use Rattle.scmi_c.proofs.held.Held.commit.Goals as goal

pub invariant_of-self : goal.invariant_of-self
invariant_of-self c =
    let had = c.self.invariant in
    let event : Event = Called c.args.agent c.args.frame.now in (
      had.0 ++ event ∷ [],
      (c.commit-answered.ensures.event had.0 had.1.0, c.count.ensures.count had.0 event had.1.1),
    )

pub returns-clause-driven : goal.returns-clause-driven
returns-clause-driven c =
    drives_made c.args.self.now _ c.args.agent c.args.frame.now c.args.effect
    (search rules) c.requires.effect
    (c.and-self-inside.ensures
    ∙ ap (λ (p : Held). p.said ++ Made c.args.effect ∷ []) c.self.view_is)

pub returns-clause-clock : goal.returns-clause-clock
returns-clause-clock c = λ clock rate is.
    let had = c.self.invariant in
    let at : StandsAt c.args.self.now had.0 =
    subst (λ (p : Held). StandsAt p had.0) c.self.view_is had.1 in
    clock-known (board_of c.args.self.now) c.args.agent had.0 c.args.frame.now clock rate
    (c.requires.effect had.0 at ∙ ap (λ (e : Effect). Some e) is)

pub returns-clause-askable : goal.returns-clause-askable
returns-clause-askable c = still-made c.args.self.now _ c.args.agent c.args.frame.now c.args.effect
    (subst HasHistory c.self.view_is c.self.invariant) (search rules) c.requires.effect
