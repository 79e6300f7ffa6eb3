use Rattle.std.proofs.Common.{arith}
use Rattle.std.proofs.lemmas.Grind.{common_steps}
use Rattle.std.proofs.lemmas.Int.Digits.{digits_value_more, digits_more}
use Rattle.scmi_board.proofs.Digits.{all_digits_at, value_so_far}
use Rattle.scmi_board.proofs.numbers.digits_value.Goals as goal

pub returns-in_err-digit : goal.returns-in_err-digit
returns-in_err-digit c =
    let ds = c.args.digits.now in
    let i = c.digits.byte-index in
    rw c.from_residual.ensures (λ both. c.in_err-digit.ensures.value
    (rw c.from.ensures (all_digits_at c.args.radix ds i both.0.1 c.digits-test.true)))

pub returns-in_err-checked_mul : goal.returns-in_err-checked_mul
returns-in_err-checked_mul c =
    let so_far = value_so_far c.args.radix c.digits.value c.args.digits.now c.digits.byte-index
    c.requires.low c.digits-test.true c.digits.invariant.value in
    rw c.from_residual-in_err-checked_mul.ensures (λ both. c.in_err-checked_mul.ensures
    (rw c.from-in-digits.ensures (omega (arith, both.1, so_far))))

pub returns-in_err-value : goal.returns-in_err-value
returns-in_err-value c =
    let so_far = value_so_far c.args.radix c.digits.value c.args.digits.now c.digits.byte-index
    c.requires.low c.digits-test.true c.digits.invariant.value in
    rw c.from_residual-in_err-value.ensures
    (λ both. c.in_err-value.ensures (grind (arith, both.1, so_far)))

pub digits-preserved : goal.digits-preserved
digits-preserved c =
    let ds = c.args.digits.now in
    let i = c.digits.byte-index in
    let more = digits_value_more c.args.radix ds i c.digits-test.true in
    record {
      fits = grind (arith, common_steps);
      digits = digits_more c.args.radix ds i c.digits-test.true c.digits.invariant.digits
          (grind (arith, common_steps));
      value = grind (arith, more);
    }

pub returns : goal.returns
returns c = grind (
  arith,
  common_steps,
  c.digits.invariant.digits,
  c.digits.invariant.fits,
  c.digits.invariant.value,
)
