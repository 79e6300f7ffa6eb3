-- The digits of a number, one at a time.
use Rattle.std.proofs.Common.{ℕ, zero, suc, ◌+◌, ◌*◌, ◌<◌, ◌≤◌, ◌≡◌, List, [], ◌∷◌, length, get_or, take, arith}
use Rattle.std.specs.Char.{digit_value}
use Rattle.std.specs.Str.Parse.{AllDigits, digits_value}
use Rattle.std.proofs.lemmas.Str.Parse.{digits_value-take-le}
use Rattle.std.proofs.lemmas.Int.Digits.{digits_value_more}

-- each byte of digits is a digit
pub all_digits_at : (radix : ℕ) (ds : List ℕ) (i : ℕ) → AllDigits radix ds → i < length ds
    → digit_value (get_or ds i 0) < radix
all_digits_at radix [] i all within = omega (arith, within)
all_digits_at radix (c ∷ cs) zero all within = all.0
all_digits_at radix (c ∷ cs) (suc i) all within =
    all_digits_at radix cs i all.1 (omega (arith, within))

-- the value up to a digit is at most the value of all digits
pub value_so_far : (radix value : ℕ) (ds : List ℕ) (i : ℕ)
    → 2 ≤ radix → i < length ds → value ≡ digits_value radix (take i ds)
    → value * radix + digit_value (get_or ds i 0) ≤ digits_value radix ds
value_so_far radix value ds i two within is =
    let more = digits_value_more radix ds i within in
    let below = digits_value-take-le radix ds (i + 1) (omega (arith, two)) in
    grind (arith, is, more, below)
