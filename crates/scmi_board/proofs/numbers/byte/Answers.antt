use Rattle.std.proofs.Common.{None, arith}
use Rattle.scmi_board.proofs.NumberForms.{none_of_fewer, of_fewer}
use Rattle.scmi_board.proofs.NumberTests.{number_is}
use Rattle.scmi_board.proofs.numbers.byte.Goals as goal

pub returns-in_err-number : goal.returns-in_err-number
returns-in_err-number c =
    let none = none_of_fewer 8 c.args.text.now (omega arith) c.in_err-number.ensures.form in
    rw c.from_residual.ensures
    (record { form = none; number = number_is 8 c.args.text.now None none })

pub returns : goal.returns
returns c =
    let form = of_fewer 8 c.args.text.now c.in_ok-number.field-0 c.try_from.result
    c.in_ok-number.ensures.form.0 c.in_ok-number.ensures.form.1 c.try_from.ensures in
    rw c.ok.ensures.value (record { form = form; number = number_is 8 c.args.text.now _ form })
