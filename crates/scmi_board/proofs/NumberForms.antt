-- A text as a number.
use Rattle.std.proofs.Common.{ℕ, ◌<◌, ◌≤◌, ◌^◌, ◌≡◌, ◌≢◌, true, false, List, ◌-◌, length, drop, take, Option, Some, None, SomeIff, Result, Ok, Err, slice_index, arith}
use Rattle.std.proofs.lemmas.List.{length-drop}
use Rattle.std.proofs.Math.Seq.{take-length}
use Rattle.std.specs.Result.{OkIff, result_ok}
use Rattle.std.specs.Str.Parse.{IsNumeral, digits_value}
use Rattle.scmi_board.specs.Number.{IsNumber, has_hexadecimal_mark, number_value}

-- behind `0x` stands a number of base 16
pub hexadecimal : (text : List ℕ) (r : Option ℕ) → has_hexadecimal_mark text ≡ true → length text
    ≤ 18 → SomeIff r (IsNumeral 16 (drop 2 text) × (digits_value 16 (drop 2 text) < 2 ^ 64))
    (digits_value 16 (drop 2 text)) → SomeIff r (IsNumber 64 text) (number_value text)
hexadecimal text None mark short gives = λ is. gives (rw mark at is.digits, rw mark at is.fits)
hexadecimal text (Some n) mark short gives = (
  record
      { digits = rw mark gives.0.0; form = rw mark short; fits = rw mark gives.0.1 },
  rw mark gives.1,
)

-- without `0x` it is of base 10
pub decimal : (text : List ℕ) (r : Option ℕ)
    → has_hexadecimal_mark text ≡ false → (1 < length text → slice_index text 0 ≢ 48)
    → SomeIff r (IsNumeral 10 text × (digits_value 10 text < 2 ^ 64)) (digits_value 10 text)
    → SomeIff r (IsNumber 64 text) (number_value text)
decimal text None mark lead gives = λ is. gives (rw mark at is.digits, rw mark at is.fits)
decimal text (Some n) mark lead gives = (
  record {
    digits = rw mark gives.0.0;
    form = rw mark lead;
    fits = rw mark gives.0.1;
  },
  rw mark gives.1,
)

-- `0x` and more than 16 digits are no number
pub too_long : (text : List ℕ) → has_hexadecimal_mark text ≡ true → 18 < length text
    → IsNumber 64 text → ⊥
too_long text mark long is =
    let short : length text ≤ 18 = rw mark at is.form in
    omega (arith, short, long)

-- a zero before other decimal digits makes no number
pub leading_zero : (text : List ℕ) → has_hexadecimal_mark text ≡ false → 1 < length text
    → slice_index text 0 ≡ 48 → IsNumber 64 text → ⊥
leading_zero text mark long zero is =
    let lead : (1 < length text → slice_index text 0 ≢ 48) = rw mark at is.form in
    lead long zero

-- what is no number of 64 bits is none of fewer
pub none_of_fewer : (bits : ℕ) (text : List ℕ) → 2 ^ bits ≤ 2 ^ 64 → (IsNumber 64 text → ⊥)
    → IsNumber bits text → ⊥
none_of_fewer bits text fewer none is =
    none (record { digits = is.digits; form = is.form; fits = omega (arith, fewer, is.fits) })

-- a number of 64 bits is one of fewer where it fits them
pub of_fewer : {E : Type 0} (bits : ℕ) (text : List ℕ) (n : ℕ) (r : Result ℕ E) → IsNumber 64 text
    → n ≡ number_value text → OkIff r (n < 2 ^ bits) n
    → SomeIff (result_ok r) (IsNumber bits text) (number_value text)
of_fewer bits text n (Err e) number is gives = λ few. gives (rw is few.fits)
of_fewer bits text n (Ok m) number is gives = (
  record {
    digits = number.digits;
    form = number.form;
    fits = rw is at gives.0;
  },
  rw is at gives.1,
)

-- all that follows `0x`
pub behind_mark : (text : List ℕ) → take (length text - 2) (drop 2 text) ≡ drop 2 text
behind_mark text = rw (← (length-drop 2 text)) (take-length (drop 2 text))
