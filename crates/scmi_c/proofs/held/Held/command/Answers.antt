use Rattle.std.proofs.Common.{rules, ap, subst}
use Rattle.scmi_c.specs.Standing.{Held, HasHistory}
use Rattle.scmi_c.proofs.Driving.{is_unsaid}
use Rattle.scmi_c.proofs.Askable.{still-plain}
use Rattle.scmi_c.proofs.held.Held.command.Goals as goal

pub returns-clause-unsaid : goal.returns-clause-unsaid
returns-clause-unsaid c = is_unsaid c.args.self.now _ c.args.agent c.args.frame.now (search rules)
    (ap (λ (p : Held). p.said) c.self.view_is)

pub returns-clause-spared : goal.returns-clause-spared
returns-clause-spared c = still-plain c.args.self.now _ c.args.agent c.args.frame.now
    (subst HasHistory c.self.view_is c.self.invariant) (search rules)
