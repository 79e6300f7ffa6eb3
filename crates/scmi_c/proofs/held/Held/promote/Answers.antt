use Rattle.std.proofs.Common.{rules, ap, subst}
use Rattle.scmi_core.specs.declared.event.Event.TheVariants.{Promoted}
use Rattle.scmi_c.specs.Standing.{Held, HasHistory}
use Rattle.scmi_c.proofs.Driving.{drives}
use Rattle.scmi_c.proofs.Askable.{still-promoted}
use Rattle.scmi_c.proofs.held.Held.promote.Goals as goal

pub returns-clause-driven : goal.returns-clause-driven
returns-clause-driven c = λ is.
    drives c.args.self.now _ (Promoted c.args.place) (search rules)
    (λ h at. ap (λ (p : Held). p.said) c.self.view_is)

pub returns-clause-askable : goal.returns-clause-askable
returns-clause-askable c = still-promoted c.args.self.now _ c.args.place
    (subst HasHistory c.self.view_is c.self.invariant) (search rules)
