-- Rates, which may have a unit.
use Rattle.std.specs.Prelude.{ℕ, ◌+◌, ◌-◌, ◌*◌, ◌^◌, ◌==◌, ◌&&◌, ◌||◌, not, nat_lt, nat_le, Bool, false, if◌then◌else◌, List, [], ◌∷◌, length, Option, Some, None}
use Rattle.std.specs.Char.{is_digit, digit_value}
use Rattle.scmi_board.specs.Items.{◌>>=◌}
use Rattle.scmi_board.specs.Number.{number_of}
use Rattle.scmi_live.specs.Letters.{is_word}
use Rattle.scmi_live.specs.Names.{or_named}
use Rattle.scmi_live.specs.declared.rate.TheConstants.{GHZ, HZ, KHZ, MHZ}

-- a number, if 64 bits hold it
abbrev pub held : ℕ → Option ℕ
held number = if nat_lt number (2 ^ 64) then Some number else None

-- the value of a decimal digit
abbrev pub digit_of : ℕ → Option ℕ
digit_of byte = if is_digit byte 10 then Some (digit_value byte) else None

-- a digit after others of this value, and the digits after it; with no digit, these are all
abbrev pub digits_or : Option ℕ → ℕ → Option (ℕ × List ℕ) → (ℕ → Option (ℕ × List ℕ))
    → Option (ℕ × List ℕ)
digits_or (Some digit) value all more = held (value * 10 + digit) >>= more
digits_or None value all more = all

-- the decimal digits at the head of a text, after others of this value: the value of all, and what
-- follows them
abbrev pub digits_behind : ℕ → List ℕ → Option (ℕ × List ℕ)
digits_behind value [] = Some (value, [])
digits_behind value (byte ∷ bytes) =
    digits_or (digit_of byte) value (Some (value, byte ∷ bytes)) (λ more. digits_behind more bytes)

-- the zeros of a unit: it is 1 Hz with these behind the 1
abbrev pub zeros_of : List ℕ → Option ℕ
zeros_of unit =
    if is_word unit GHZ.now then Some 9 else if is_word unit MHZ.now then Some 6
    else if is_word unit KHZ.now then Some 3 else if is_word unit HZ.now then Some 0 else None

-- digits of which this many are behind the point, in a unit of this many zeros: a whole number of
-- Hz, or none
abbrev pub scaled : ℕ → ℕ → ℕ → Option ℕ
scaled value places zeros =
    if nat_le places zeros
    then (held (10 ^ (zeros - places)) >>= λ factor. held (value * factor)) else None

-- digits and a unit, of which this many are behind the point
abbrev pub in_unit : ℕ → ℕ → List ℕ → Option ℕ
in_unit value places unit = zeros_of unit >>= λ zeros. scaled value places zeros

-- how many bytes of a text are before this rest of it
abbrev pub bytes_before : List ℕ → List ℕ → ℕ
bytes_before text rest = length text - length rest

-- digits behind the point, one at least, and the unit
abbrev pub behind_point : ℕ → List ℕ → Option ℕ
behind_point value text =
    digits_behind value text >>= λ all. if nat_lt 0 (bytes_before text all.1)
    then in_unit all.0 (bytes_before text all.1) all.1 else None

-- what follows the digits before the point: the point and what is behind it, or the unit
abbrev pub behind_whole : ℕ → List ℕ → Option ℕ
behind_whole value [] = None
behind_whole value (byte ∷ bytes) = if byte == 46 then behind_point value bytes
    else in_unit value 0 (byte ∷ bytes)

-- whether a text begins with a zero
abbrev pub begins_with_zero : List ℕ → Bool
begins_with_zero [] = false
begins_with_zero (byte ∷ bytes) = byte == 48

-- this many digits, one at least and no zero before others
abbrev pub is_whole : ℕ → List ℕ → Bool
is_whole count text = (count == 1) || (nat_lt 1 count && not (begins_with_zero text))

-- a rate with its unit, in Hz
abbrev pub rate_in_unit : List ℕ → Option ℕ
rate_in_unit item =
    digits_behind 0 item >>= λ whole. if is_whole (bytes_before item whole.1) item
    then behind_whole whole.0 whole.1 else None

-- the rate that an item encodes, in Hz: its number, or its number with a unit
abbrev pub rate_meant : List ℕ → Option ℕ
rate_meant item = or_named (number_of 64 item) (rate_in_unit item)
