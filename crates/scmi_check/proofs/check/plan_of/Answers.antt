use Rattle.std.proofs.lemmas.Result.{err_from_is_err_and}
use Rattle.scmi_check.proofs.Faults.{board_fails}
use Rattle.scmi_check.proofs.check.plan_of.Goals as goal

pub returns-in_err-valid-clause-faults : goal.returns-in_err-valid-clause-faults
returns-in_err-valid-clause-faults c =
    let p = err_from_is_err_and c.from_residual.result c.from_residual.ensures.1 in
    rw (p.1, p.2)
    (board_fails c.args.text.now c.in_err-valid.field-0.0 c.in_err-valid.ensures.fault)
