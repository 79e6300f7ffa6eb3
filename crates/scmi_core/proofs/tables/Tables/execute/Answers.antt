use Rattle.std.proofs.Common.{None, sym, subst}
use Rattle.scmi_core.specs.Deed.{success_of}
use Rattle.scmi_core.specs.Step.{HasStepped}
use Rattle.scmi_core.proofs.Ties.{unread-stepped}
use Rattle.scmi_core.proofs.tables.Tables.execute.Goals as goal

pub returns-in-Err-clause-stepped : goal.returns-in-Err-clause-stepped
returns-in-Err-clause-stepped c =
    subst (λ r. HasStepped c.args.plan.now c.args.self.now (success_of c.args.agent c.args.header r
    c.set_refusal.new.payload.items) None c.args.self.now) (sym c.in-Err.is)
    (unread-stepped c.args.plan.now c.args.self.now c.args.agent c.args.header c.in-Err.status
    c.set_refusal.new.payload.items)
