-- The flags of a rate set (DEN0056B, clock management protocol).
use Rattle.std.specs.Prelude.{ℕ, ◌/◌, ◌%◌, ◌^◌, ◌==◌, Bool, not, nat_le, if◌then◌else◌, Result, Ok, Err}
use Rattle.scmi_codec.specs.Reply.{bit_0}
use Rattle.scmi_codec.specs.declared.status.Status.{Status}
use Rattle.scmi_codec.specs.declared.status.Status.TheVariants.{InvalidParameters}
use Rattle.scmi_clock.specs.declared.rounding.Rounding.{Rounding}
use Rattle.scmi_clock.specs.declared.rounding.Rounding.TheVariants as rounding
use Rattle.scmi_clock.specs.declared.set_flags.SetFlags.{SetFlags}

-- bit 3 asks for the nearest rate, and else bit 2 for rounding up (own: the platform's choice is
-- the nearest)
abbrev pub rounding_of : ℕ → Rounding
rounding_of flags =
    if flags / 2 ^ 3 % 2 == 1 then rounding.Nearest
    else if flags / 2 ^ 2 % 2 == 1 then rounding.Up
    else rounding.Down

-- bit 0 asks for an asynchronous set
abbrev pub is_asynchronous : ℕ → Bool
is_asynchronous flags = bit_0 flags

-- bit 1 says that no delayed response is wanted
abbrev pub is_response_wanted : ℕ → Bool
is_response_wanted flags = not (bit_0 (flags / 2))

-- whether one of bits 31 to 4 is set
abbrev pub has_unknown_flags : ℕ → Bool
has_unknown_flags flags = nat_le 16 flags

-- what a word of flags asks for, if it has no unknown ones
abbrev pub set_flags : ℕ → Result SetFlags Status
set_flags flags =
    if has_unknown_flags flags then Err InvalidParameters
    else Ok (record {
      rounding = rounding_of flags;
      asynchronous = is_asynchronous flags;
      response_wanted = is_response_wanted flags;
    })
