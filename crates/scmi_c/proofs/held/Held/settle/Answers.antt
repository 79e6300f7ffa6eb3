use Rattle.std.proofs.Common.{rules, ap, subst}
use Rattle.scmi_core.specs.declared.event.Event.TheVariants.{Settled}
use Rattle.scmi_c.specs.Standing.{Held, HasHistory}
use Rattle.scmi_c.proofs.Driving.{drives}
use Rattle.scmi_c.proofs.Askable.{still-settled}
use Rattle.scmi_c.proofs.held.Held.settle.Goals as goal

pub returns-clause-driven : goal.returns-clause-driven
returns-clause-driven c = λ is.
    drives c.args.self.now _ (Settled c.args.clock c.args.rate) (search rules)
    (λ h at. ap (λ (p : Held). p.said) c.self.view_is)

pub returns-clause-askable : goal.returns-clause-askable
returns-clause-askable c = still-settled c.args.self.now _ c.args.clock c.args.rate
    (subst HasHistory c.self.view_is c.self.invariant) (search rules)
