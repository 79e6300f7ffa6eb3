-- The bytes of a dump in either order of digits, and what its column of text shows.
use Rattle.std.specs.Prelude.{ℕ, ◌==◌, ◌&&◌, nat_lt, Bool, true, false, if◌then◌else◌, List, [], ◌∷◌, map, Option, Some, None}
use Rattle.std.specs.List.{list_all}
use Rattle.scmi_decode.specs.declared.cell.Cell.{Cell}
use Rattle.scmi_decode.specs.declared.order.Order.{Order}
use Rattle.scmi_decode.specs.declared.order.Order.TheVariants.{Straight, Turned, Unclear}

-- the first byte, 0 of none
abbrev pub first_byte : List ℕ → ℕ
first_byte [] = 0
first_byte (b ∷ bs) = b

-- the bytes after the first
abbrev pub later_bytes : List ℕ → List ℕ
later_bytes [] = []
later_bytes (b ∷ bs) = bs

-- the cells of bytes in either order, and of the text that shows them
abbrev pub cells_of : (straight turned shown : List ℕ) → List Cell
cells_of [] turned shown = []
cells_of (b ∷ bs) turned shown =
    record { straight = b; turned = first_byte turned; shown = first_byte shown }
    ∷ cells_of bs (later_bytes turned) (later_bytes shown)

-- the byte of a cell in one order
abbrev pub byte_in : (is_turned : Bool) → Cell → ℕ
byte_in false c = c.straight
byte_in true c = c.turned

-- what a column of text shows of a byte: a printable character of ASCII as it is, and a point for
-- any other byte
abbrev pub character_of : ℕ → ℕ
character_of b = if nat_lt 31 b && nat_lt b 127 then b else 46

-- whether the column of text shows the bytes of one order
abbrev pub shows : (is_turned : Bool) → List Cell → Bool
shows is_turned cells = list_all (λ c. c.shown == character_of (byte_in is_turned c)) cells

-- whether both orders are the same bytes
abbrev pub are_alike : List Cell → Bool
are_alike cells = list_all (λ c. c.straight == c.turned) cells

-- the bytes of cells in one order
abbrev pub bytes_in : (is_turned : Bool) → List Cell → List ℕ
bytes_in is_turned cells = map (byte_in is_turned) cells

-- the order that is shown, or else this one, if the column of text shows straight bytes, and if it
-- shows turned ones
abbrev pub order_by : (straight turned : Bool) → Order → Order
order_by true false o = Straight
order_by false true o = Turned
order_by true true o = o
order_by false false o = o

-- the order that the column of text shows, or else this one
abbrev pub order_shown : Order → List Cell → Order
order_shown o cells = order_by (shows false cells) (shows true cells) o

-- whether a byte is 0 in an order, in either if that is unclear
abbrev pub is_zero_in : Order → Cell → Bool
is_zero_in Straight c = c.straight == 0
is_zero_in Turned c = c.turned == 0
is_zero_in Unclear c = (c.straight == 0) && (c.turned == 0)

-- the bytes of cells in an order; of an unclear one only if both are the same
abbrev pub bytes_of_order : Order → List Cell → Option (List ℕ)
bytes_of_order Straight cells = Some (bytes_in false cells)
bytes_of_order Turned cells = Some (bytes_in true cells)
bytes_of_order Unclear cells = if are_alike cells then Some (bytes_in false cells) else None

-- the bytes of cells in the order that their column of text shows, or else in this order
abbrev pub settled : Order → List Cell → Option (List ℕ)
settled o cells = bytes_of_order (order_shown o cells) cells
