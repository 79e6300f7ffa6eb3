-- Numbers as texts write them.
use Rattle.std.specs.Prelude.{◌≢◌, ℕ, ◌<◌, ◌≤◌, ◌^◌, ◌&&◌, ◌==◌, Bool, not, if◌then◌else◌, MatchBool, List, length, drop, slice_index, nat_lt, nat_le, Option, Some, None}
use Rattle.std.specs.Char.{is_digit}
use Rattle.std.specs.List.{list_all}
use Rattle.std.specs.Str.Parse.{IsNumeral, digits_value}

-- whether a text begins with `0x`
abbrev pub has_hexadecimal_mark : List ℕ → Bool
has_hexadecimal_mark text =
    nat_lt 1 (length text) && (slice_index text 0 == 48) && (slice_index text 1 == 120)

-- the digits of a text: what follows `0x`, or all of it
abbrev pub number_digits : List ℕ → List ℕ
number_digits text = if has_hexadecimal_mark text then drop 2 text else text

-- the base that a text is written in
abbrev pub number_base : List ℕ → ℕ
number_base text = if has_hexadecimal_mark text then 16 else 10

-- the value of a text's digits in its base
abbrev pub number_value : List ℕ → ℕ
number_value text = digits_value (number_base text) (number_digits text)

-- a text has at most 16 hexadecimal digits, or no zero before other decimal digits
abbrev pub HasNumberForm : List ℕ → Type 0
HasNumberForm text = MatchBool (has_hexadecimal_mark text) (length text ≤ 18)
    (1 < length text → slice_index text 0 ≢ 48)

-- a text is a number of at most that many bits
pub record IsNumber (bits : ℕ) (text : List ℕ) : Type 0 where
  pub digits : IsNumeral (number_base text) (number_digits text)
  pub form : HasNumberForm text
  pub fits : number_value text < 2 ^ bits

-- the same as tests: one digit or more, and nothing else
abbrev pub is_numeral : ℕ → List ℕ → Bool
is_numeral base digits = nat_lt 0 (length digits) && list_all (λ c. is_digit c base) digits

-- 16 hexadecimal digits at most, or no zero before other decimal digits
abbrev pub has_number_form : List ℕ → Bool
has_number_form text = if has_hexadecimal_mark text then nat_le (length text) 18
    else not (nat_lt 1 (length text) && (slice_index text 0 == 48))

-- whether a text is a number of at most that many bits
abbrev pub is_number : ℕ → List ℕ → Bool
is_number bits text = is_numeral (number_base text) (number_digits text) && has_number_form text
    && nat_lt (number_value text) (2 ^ bits)

-- the number of at most that many bits that a text encodes
unfoldable pub number_of : ℕ → List ℕ → Option ℕ
number_of bits text = if is_number bits text then Some (number_value text) else None
