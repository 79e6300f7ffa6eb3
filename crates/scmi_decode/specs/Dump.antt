-- The bytes of a line of a dump.
use Rattle.std.specs.Prelude.{◌≡◌, ℕ, ◌==◌, ◌&&◌, ◌||◌, nat_lt, Bool, true, false, if◌then◌else◌, List, [], ◌∷◌, ◌++◌, length, drop, reverse, slice_index, Option, Some, None}
use Rattle.std.specs.List.{slice_split}
use Rattle.std.specs.Option.{option_map}
use Rattle.std.specs.Result.{result_ok}
use Rattle.hex.specs.Hex.{decode_of}

-- whether a byte separates the items of a line: a space, a tab, a carriage return or a comma
abbrev pub is_gap : ℕ → Bool
is_gap b = (b == 32) || (b == 9) || (b == 13) || (b == 44)

-- the first item that is not empty
abbrev pub first_full : List (List ℕ) → List ℕ
first_full [] = []
first_full (item ∷ items) = if length item == 0 then first_full items else item

-- what follows it
abbrev pub behind_full : List (List ℕ) → List (List ℕ)
behind_full [] = []
behind_full (item ∷ items) = if length item == 0 then behind_full items else items

-- whether an item has the mark of a number, `0x`, and something after it
abbrev pub has_mark : List ℕ → Bool
has_mark item = nat_lt 2 (length item) && (slice_index item 0 == 48) && (slice_index item 1 == 120)

-- bytes as two hexadecimal digits each, of either case, the high one first
abbrev pub bytes_of : List ℕ → Option (List ℕ)
bytes_of digits = result_ok (decode_of digits)

-- a number's bytes, the lowest first
abbrev pub number_bytes : List ℕ → Option (List ℕ)
number_bytes digits = option_map reverse (bytes_of digits)

-- the bytes of an item: a number after its mark, or if digits are turned, is its bytes from the
-- lowest on; any other item is bytes in their order
abbrev pub item_bytes : (is_turned : Bool) → List ℕ → Option (List ℕ)
item_bytes is_turned item = if has_mark item then number_bytes (drop 2 item) else if is_turned
    then number_bytes item else bytes_of item

-- what a vector is once the bytes of an item were added, if it has some, and whether it has
abbrev pub Adds : Option (List ℕ) → (added : Bool) → (old new : List ℕ) → Type 0
Adds None added old new = added ≡ false
Adds (Some bytes) added old new = (added ≡ true) × (new ≡ old ++ bytes)

-- the digits of an item, after its mark
abbrev pub digits_of : List ℕ → List ℕ
digits_of item = if has_mark item then drop 2 item else item

-- one after the other, if both are there
abbrev pub both_bytes : Option (List ℕ) → Option (List ℕ) → Option (List ℕ)
both_bytes (Some a) (Some b) = Some (a ++ b)
both_bytes _ _ = None

-- the bytes of items, one after the other
abbrev pub items_bytes : (is_turned : Bool) → List (List ℕ) → Option (List ℕ)
items_bytes is_turned [] = Some []
items_bytes is_turned (item ∷ items) =
    both_bytes (item_bytes is_turned item) (items_bytes is_turned items)

-- the bytes of a line, if each of its items has some
abbrev pub line_bytes : (is_turned : Bool) → List ℕ → Option (List ℕ)
line_bytes is_turned line = items_bytes is_turned (slice_split is_gap line)
