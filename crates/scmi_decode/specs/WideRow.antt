-- Lines that may be a row with an address, of more bytes than a row has.
use Rattle.std.specs.Prelude.{ℕ, ◌-◌, ◌*◌, ◌==◌, ◌&&◌, ◌||◌, nat_lt, not, Bool, false, List, [], ◌∷◌, length}
use Rattle.scmi_decode.specs.Dump.{behind_full, first_full}
use Rattle.scmi_decode.specs.Row.{is_hexadecimal}
use Rattle.scmi_decode.specs.declared.row.TheConstants.{ROW_BYTES}

-- whether items have more digits together than so many, up to the first that is no hexadecimal
-- digits
abbrev pub has_more_digits : (most : ℕ) → List (List ℕ) → Bool
has_more_digits most [] = false
has_more_digits most (item ∷ items) =
    is_hexadecimal item && (nat_lt most (length item) || has_more_digits (most - length item) items)

-- whether an item may be an address before another: it has six to sixteen hexadecimal digits, and
-- not as many as that
abbrev pub may_be_address : (first second : List ℕ) → Bool
may_be_address first second =
    nat_lt 5 (length first) && nat_lt (length first) 17 && is_hexadecimal first
    && not (length first == length second)

-- whether items may be an address and more bytes after it than a row has
abbrev pub is_wide_row : List (List ℕ) → Bool
is_wide_row items =
    may_be_address (first_full items) (first_full (behind_full items))
    && has_more_digits (2 * ROW_BYTES) (behind_full items)
