use Rattle.std.proofs.Common.{Some}
use Rattle.std.proofs.lemmas.Result.{err_from_is_err_and}
use Rattle.scmi_board.specs.Items.{items_left}
use Rattle.scmi_text.proofs.StepLemmas.{found_is, head_fails, payload_fails}
use Rattle.scmi_text.proofs.steps.read_step.Goals as goal

pub returns-in_err-head-clause-step : goal.returns-in_err-head-clause-step
returns-in_err-head-clause-step c =
    let p = err_from_is_err_and c.from_residual.result c.from_residual.ensures.1 in
    rw (p.1, p.2) (head_fails c.args.kinds c.args.agents c.args.text.now c.new-items.result
    c.in_err-head.field-0.0 c.new-items.ensures c.in_err-head.ensures.head)

pub returns-in_err-payload-clause-step : goal.returns-in_err-payload-clause-step
returns-in_err-payload-clause-step c =
    let p = err_from_is_err_and c.from_residual-in_err-payload.result
    c.from_residual-in_err-payload.ensures.1 in
    rw (p.1, p.2) (payload_fails c.args.kinds c.args.agents c.args.text.now c.new-items.result
    c.in_ok-head.head (items_left c.read_head.new.items) c.in_err-payload.field-0.0
    c.new-items.ensures c.in_ok-head.ensures.head c.in_err-payload.ensures)

pub returns-clause-step : goal.returns-clause-step
returns-clause-step c =
    rw c.step_with.ensures (found_is c.args.kinds c.args.agents c.args.text.now c.new-items.result
    c.in_ok-head.head (items_left c.read_head.new.items) (Some c.in_ok-payload.payload.items)
    c.new-items.ensures c.in_ok-head.ensures.head c.in_ok-payload.ensures)
