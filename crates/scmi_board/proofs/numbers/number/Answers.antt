use Rattle.std.proofs.Common.{◌≢◌, ◌<◌, length, slice_index, None, sym, arith}
use Rattle.scmi_board.proofs.NumberForms.{behind_mark, decimal, hexadecimal, leading_zero, too_long}
use Rattle.scmi_board.proofs.NumberTests.{number_is}
use Rattle.scmi_board.proofs.numbers.number.Goals as goal
use Rattle.scmi_board.proofs.numbers.number.Goals.{else-text-gt1-via-then-text-gt1+else-text-eq48, else-text-gt1-via-else-text-gt1}

pub returns-then-text-gt18-clause-number : goal.returns-then-text-gt18-clause-number
returns-then-text-gt18-clause-number c = number_is 64 c.args.text.now None
    (too_long c.args.text.now (sym c.if-has_hexadecimal_mark.ensures) c.if-text-gt18.true)

pub returns-then-has_hexadecimal_mark-clause-number :
    goal.returns-then-has_hexadecimal_mark-clause-number
returns-then-has_hexadecimal_mark-clause-number c =
    number_is 64 c.args.text.now c.digits_value.result
    (hexadecimal c.args.text.now c.digits_value.result (sym c.if-has_hexadecimal_mark.ensures)
    c.if-text-gt18.false (rw (behind_mark c.args.text.now) at c.digits_value.ensures))

pub returns-then-text-eq48-clause-number : goal.returns-then-text-eq48-clause-number
returns-then-text-eq48-clause-number c = number_is 64 c.args.text.now None (leading_zero
    c.args.text.now (sym c.if-has_hexadecimal_mark.ensures) c.if-text-gt1.true c.if-text-eq48.true)

pub returns-clause-number : goal.returns-clause-number
returns-clause-number c =
    let lead : (1 < length c.args.text.now → slice_index c.args.text.now 0 ≢ 48) =
    elim c.else-text-gt1.branch [
      | else-text-gt1-via-then-text-gt1+else-text-eq48 w ↦ λ long. w.if-text-eq48.false
      | else-text-gt1-via-else-text-gt1 w ↦ λ long. absurd
          (omega (arith, long, w.if-text-gt1.false))
    ] in
    number_is 64 c.args.text.now c.digits_value-2.result
    (decimal c.args.text.now c.digits_value-2.result
    (sym c.if-has_hexadecimal_mark.ensures) lead c.digits_value-2.ensures)
