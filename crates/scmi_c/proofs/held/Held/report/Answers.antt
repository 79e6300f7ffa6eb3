use Rattle.std.proofs.Common.{rules, ap, subst}
use Rattle.scmi_core.specs.declared.event.Event.TheVariants.{Reported}
use Rattle.scmi_c.specs.Standing.{Held, HasHistory}
use Rattle.scmi_c.proofs.Driving.{drives}
use Rattle.scmi_c.proofs.Askable.{still-reported}
use Rattle.scmi_c.proofs.held.Held.report.Goals as goal

pub returns-in-Ok-clause-driven : goal.returns-in-Ok-clause-driven
returns-in-Ok-clause-driven c =
    drives c.args.self.now _ (Reported c.args.effect) (search rules)
    (λ h at. ap (λ (p : Held). p.said) c.self.view_is)

pub returns-in-Ok-clause-askable : goal.returns-in-Ok-clause-askable
returns-in-Ok-clause-askable c = still-reported c.args.self.now _ c.args.effect
    (subst HasHistory c.self.view_is c.self.invariant) (search rules)
