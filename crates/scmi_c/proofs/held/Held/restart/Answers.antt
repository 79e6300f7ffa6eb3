use Rattle.std.proofs.Common.{rules, ap}
use Rattle.scmi_core.specs.declared.event.Event.TheVariants.{Restarted}
use Rattle.scmi_c.specs.Standing.{Held}
use Rattle.scmi_c.proofs.Driving.{drives}
use Rattle.scmi_c.proofs.held.Held.restart.Goals as goal

pub returns-clause-driven : goal.returns-clause-driven
returns-clause-driven c =
    drives c.args.self.now _ (Restarted c.args.agent) (search rules)
    (λ h at. ap (λ (p : Held). p.said) c.self.view_is)
