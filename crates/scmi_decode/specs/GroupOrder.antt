-- In which order the digits of the groups of a row are.
use Rattle.std.specs.Prelude.{ℕ, ◌+◌, ◌/◌, ◌==◌, ◌&&◌, ◌||◌, nat_le, nat_lt, not, Bool, true, false, if◌then◌else◌, List, length}
use Rattle.std.specs.List.{list_all}
use Rattle.scmi_decode.specs.Dump.{is_gap, has_mark}
use Rattle.scmi_decode.specs.Scan.{gap_length, after_gap, first_item, after_item, without_return}
use Rattle.scmi_decode.specs.declared.form.Form.{Form}
use Rattle.scmi_decode.specs.declared.form.Form.TheVariants.{Plain, Marked, Offset, Equals, Value}
use Rattle.scmi_decode.specs.declared.order.Order.{Order}
use Rattle.scmi_decode.specs.declared.order.Order.TheVariants.{Straight, Turned, Unclear}

-- how many digits an item has, 0 of one with its mark
abbrev pub group_of : List ℕ → ℕ
group_of item = if has_mark item then 0 else length item

-- how many spaces come before a column of text, 0 without one
abbrev pub gap_before : List ℕ → ℕ
gap_before column = if length (after_gap column) == 0 then 0 else gap_length column

-- the order of groups of four digits: od and J-Link print numbers, xxd bytes and two spaces, md.w
-- numbers and more
abbrev pub half_order : Form → (gap : ℕ) → Order
half_order Offset gap = Turned
half_order Marked gap = if gap == 2 then Straight else if nat_lt 2 gap then Turned else Unclear
half_order Plain gap = Unclear
half_order Equals gap = Turned
half_order Value gap = Turned

-- the order of groups of eight or sixteen digits: numbers, but one alone on a line may be bytes, as
-- xxd -p prints them, and so may those before two spaces and a column, as xxd -g 4 prints them
abbrev pub long_order : Form → (gap : ℕ) → (alone : Bool) → Order
long_order Plain gap true = Unclear
long_order Plain gap false = Turned
long_order Marked gap alone = if gap == 2 then Unclear else Turned
long_order Offset gap alone = Turned
long_order Equals gap alone = Turned
long_order Value gap alone = Turned

-- whether a group has eight or sixteen digits
abbrev pub is_long : (group : ℕ) → Bool
is_long group = (group == 8) || (group == 16)

-- the order of the digits of a row, by how many its first group has, the spaces before its column
-- of text, and whether its group is alone
abbrev pub order_of : Form → (group gap : ℕ) → (alone : Bool) → Order
order_of f group gap alone = if group == 4 then half_order f gap else if is_long group
    then long_order f gap alone else Straight

-- whether a byte is the digit 0 or 1, or in a gap
abbrev pub is_bit : ℕ → Bool
is_bit b = (b == 48) || (b == 49) || is_gap b

-- whether data are digits 0 and 1 alone, and gaps
abbrev pub has_bits_alone : List ℕ → Bool
has_bits_alone groups = list_all is_bit groups

-- a column without the gap before it
abbrev pub shown_text : List ℕ → List ℕ
shown_text column = without_return (after_gap column)

-- whether data are bits, as `xxd -b` prints them after an address and a colon: groups of eight
-- digits 0 and 1, and a column of text with at most one character for each
abbrev pub are_bits : Form → (groups column : List ℕ) → Bool
are_bits Marked groups column =
    (length (first_item groups) == 8) && nat_lt 0 (length (shown_text column))
    && nat_le (length (shown_text column)) (length groups / 9 + 1)
    && has_bits_alone groups
are_bits f groups column = false

-- an order, beside a column of text or not: `od` prints numbers in either byte order, so only the
-- column shows in which
abbrev pub beside_text : Form → (has_text : Bool) → Order → Order
beside_text Offset true Turned = Unclear
beside_text f has_text o = o

-- the order of groups of data, by the spaces before their column of text
abbrev pub groups_order : Form → (groups : List ℕ) → (gap : ℕ) → Order
groups_order f groups gap =
    order_of f (group_of (first_item groups)) gap (length (after_gap (after_item groups)) == 0)

-- the order of the digits of data, if no column shows it
abbrev pub data_order : Form → (groups column : List ℕ) → Order
data_order f groups column =
    beside_text f (not (length column == 0)) (groups_order f groups (gap_before column))
