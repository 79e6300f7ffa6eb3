-- The rows of dumps: an address, some bytes, and a column of text.
use Rattle.std.specs.Prelude.{ℕ, ◌+◌, ◌-◌, ◌*◌, ◌^◌, ◌==◌, ◌&&◌, ◌||◌, nat_eq, nat_lt, not, Bool, true, false, if◌then◌else◌, List, [], ◌∷◌, length, take, drop, slice_index, Option, Some, None, is_some}
use Rattle.std.specs.Int.{to_le_bytes, w32}
use Rattle.std.specs.List.{list_all, starts_with}
use Rattle.std.specs.Option.{option_map}
use Rattle.scmi_decode.specs.Cell.{cells_of, later_bytes}
use Rattle.scmi_decode.specs.FirstColumn.{no_column}
use Rattle.scmi_decode.specs.Dump.{is_gap, has_mark, line_bytes}
use Rattle.scmi_decode.specs.GroupOrder.{group_of, is_long, are_bits, data_order}
use Rattle.scmi_decode.specs.Scan.{item_length, after_gap, first_item, after_item, column_length, bar_length, pipe_length, behind_colon, without_last, without_return, after_cursor}
use Rattle.scmi_decode.specs.declared.cell.Cell.{Cell}
use Rattle.scmi_decode.specs.declared.first_column.FirstColumn.{FirstColumn}
use Rattle.scmi_decode.specs.declared.form.Form.{Form}
use Rattle.scmi_decode.specs.declared.form.Form.TheVariants.{Plain, Marked, Offset, Equals, Value}
use Rattle.scmi_decode.specs.declared.order.Order.{Order}
use Rattle.scmi_decode.specs.declared.order.Order.TheVariants.{Turned}
use Rattle.scmi_decode.specs.declared.parts.TheConstants.{VALUE_AT}
use Rattle.scmi_decode.specs.declared.row.TheConstants.{ROW_BYTES, ROW_LINE_BYTES}

-- the value of a digit of either case, 16 for what is no hexadecimal digit
abbrev pub digit_value : ℕ → ℕ
digit_value b =
    if nat_lt 47 b && nat_lt b 58 then b - 48 else if nat_lt 96 b && nat_lt b 103 then b - 97 + 10
    else if nat_lt 64 b && nat_lt b 71 then b - 65 + 10 else 16

-- whether an item is hexadecimal digits
abbrev pub is_hexadecimal : List ℕ → Bool
is_hexadecimal item = list_all (λ b. nat_lt (digit_value b) 16) item

-- the number that digits of a base give after what comes before them, if it has at most 64 bits
abbrev pub number_from : (base before : ℕ) → List ℕ → Option ℕ
number_from base before [] = Some before
number_from base before (d ∷ ds) =
    if nat_lt (digit_value d) base && nat_lt (before * base + digit_value d) (2 ^ 64)
    then number_from base (before * base + digit_value d) ds else None

-- whether an item has a colon as its last byte
abbrev pub ends_in_colon : List ℕ → Bool
ends_in_colon item = not (length item == 0) && (slice_index item (length item - 1) == 58)

-- whether an item names the place of an address, `<NAME+N>:`
abbrev pub is_symbol : List ℕ → Bool
is_symbol item = ends_in_colon item && (slice_index item 0 == 60)

-- whether two items, with nothing after them, are an address and its value
abbrev pub is_pair : (first second behind : List ℕ) → Bool
is_pair first second behind = has_mark first && has_mark second && (length (after_gap behind) == 0)

-- whether an item is `=`
abbrev pub is_equals : List ℕ → Bool
is_equals item = (length item == 1) && (slice_index item 0 == 61)

-- whether an item has a `|`
abbrev pub has_pipe : List ℕ → Bool
has_pipe item = nat_lt (pipe_length item) (length item)

-- whether a group of digits is one byte, or a number of two, four or eight
abbrev pub is_group : List ℕ → Bool
is_group item =
    (length item == 2) || (length item == 4) || (length item == 8) || (length item == 16)

-- whether an item is an address before groups of digits: it has six to sixteen digits, and not as
-- many as the group after it
abbrev pub is_offset : (first second : List ℕ) → Bool
is_offset first second =
    nat_lt 5 (length first) && nat_lt (length first) 17 && is_group second
    && not (length first == length second)

-- the form of a row, the digits of its address, the place of its bytes, and what follows those
pub record RowParts : Type 0 where
  pub form : Form
  pub digits : List ℕ
  pub bytes : List ℕ
  pub column : List ℕ

-- a row of a form, whose data are so long
abbrev pub cut_parts : Form → (digits : List ℕ) → (size : ℕ) → (groups : List ℕ) → RowParts
cut_parts f digits size groups =
    record { form = f; digits = digits; bytes = take size groups; column = drop size groups }

-- a row of these digits, whose bytes follow them, before a column of text
unfoldable pub marked_parts : Form → (digits behind : List ℕ) → RowParts
marked_parts f digits behind =
    cut_parts f digits (column_length (after_gap behind)) (after_gap behind)

-- a row of an address alone, whose bytes follow it, before a column of text between `|` and `|` or
-- `>` and `<`
unfoldable pub offset_parts : (digits behind : List ℕ) → RowParts
offset_parts digits behind = record {
  form = Offset;
  digits = digits;
  bytes = take (bar_length behind) behind;
  column = without_last (without_return (later_bytes (drop (bar_length behind) behind)));
}

-- how long sixteen bytes are in groups of so many digits, with a space between them
abbrev pub sixteen_length : (group : ℕ) → ℕ
sixteen_length group = if group == 2 then 47 else if group == 4 then 39 else if group == 8 then 35
    else if group == 16 then 33 else 0

-- the smaller of two
abbrev pub smaller : ℕ → ℕ → ℕ
smaller m n = if nat_lt m n then m else n

-- how long the data of sixteen bytes are, by their first group
abbrev pub data_length : List ℕ → ℕ
data_length groups = smaller (sixteen_length (item_length groups)) (length groups)

-- the data behind `|`
abbrev pub piped_data : List ℕ → List ℕ
piped_data line = after_gap (after_cursor (drop (pipe_length line + 1) line))

-- the digits of the address before `|`, behind a class and a colon
abbrev pub piped_digits : List ℕ → List ℕ
piped_digits line = behind_colon (take (pipe_length line) line) (take (pipe_length line) line)

-- a row of a debugger, `CLASS:ADDRESS|DATA`, whose data are sixteen bytes
unfoldable pub piped_parts : (line : List ℕ) → RowParts
piped_parts line =
    cut_parts Marked (piped_digits line) (data_length (piped_data line)) (piped_data line)

-- the parts of a line as a row; of a line that begins with no address all of it is data
unfoldable pub parts_at : List ℕ → RowParts
parts_at line =
    if ends_in_colon (first_item line)
    then marked_parts Marked (without_last (first_item line)) (after_item line)
    else if is_symbol (first_item (after_item line))
    then marked_parts Marked (first_item line) (after_item (after_item line))
    else if is_equals (first_item (after_item line))
    then marked_parts Equals (first_item line) (after_item (after_item line))
    else if is_pair (first_item line) (first_item (after_item line)) (after_item (after_item line))
    then marked_parts Marked (first_item line) (after_item line)
    else if has_pipe (first_item line) then piped_parts (after_gap line)
    else if is_offset (first_item line) (first_item (after_item line))
    then offset_parts (first_item line) (after_item line)
    else record { form = Plain; digits = []; bytes = line; column = [] }

-- a row: its form, its address (0 for a plain one), how many digits its first group has, 0 of a
-- number with its mark; in which order digits are, if no column shows it; what its first item is if
-- it is an address; and its bytes
pub record RowView : Type 0 where
  pub form : Form
  pub address : ℕ
  pub group : ℕ
  pub order : Order
  pub column : FirstColumn
  pub cells : List Cell

-- the base of an address: od prints seven octal digits, all others hexadecimal ones
abbrev pub base_of : Form → List ℕ → ℕ
base_of Offset digits = if length digits == 7 then 8 else 16
base_of f digits = 16

-- digits without the mark `0x`
abbrev pub without_mark : List ℕ → List ℕ
without_mark digits = if has_mark digits then drop 2 digits else digits

-- the address of a row, 0 of a plain one
unfoldable pub address_of : Form → List ℕ → Option ℕ
address_of f digits = number_from (base_of f digits) 0 (without_mark digits)

-- what a column shows of so many bytes: the last characters
abbrev pub column_text : (count : ℕ) → List ℕ → List ℕ
column_text count column = if nat_lt count (length column)
    then drop (length column - count) column else []

-- what a column shows of so many bytes: one between bars begins with the first byte, and has fewer
-- characters where `od` filled the last group; any other ends with the last byte
abbrev pub shown_of : Form → (count : ℕ) → (column : List ℕ) → List ℕ
shown_of Offset count column = column
shown_of f count column = column_text count (without_return column)

-- the cells of data in either order, and of the column after them
abbrev pub both_cells : Form → (straight turned : Option (List ℕ)) → (column : List ℕ)
    → Option (List Cell)
both_cells f (Some straight) (Some turned) column =
    Some (cells_of straight turned (shown_of f (length straight) column))
both_cells f _ _ column = None

-- the bytes of a number below 2^32, the lowest first
abbrev pub word_bytes_of : Option ℕ → Option (List ℕ)
word_bytes_of None = None
word_bytes_of (Some n) = if nat_lt n (2 ^ 32) then Some (to_le_bytes w32 n) else None

-- the cells of a number of four bytes that is printed without leading zeros
abbrev pub word_cells : List ℕ → Option (List Cell)
word_cells item =
    if has_mark item then option_map (λ bytes. cells_of bytes bytes [])
    (word_bytes_of (number_from 16 0 (drop 2 item))) else None

-- the cells of data and of the column after them, if the data are digits
abbrev pub data_cells : Form → (groups column : List ℕ) → Option (List Cell)
data_cells f groups column = both_cells f (line_bytes false groups) (line_bytes true groups) column

-- the cells of data of a form
abbrev pub form_cells : Form → (groups column : List ℕ) → Option (List Cell)
form_cells Value groups column = word_cells (first_item groups)
form_cells f groups column = data_cells f groups column

-- a row of numbers after an address alone
abbrev pub offset_row : (address group : ℕ) → List Cell → RowView
offset_row address group cells = record {
  form = Offset;
  address = address;
  group = group;
  order = Turned;
  column = no_column;
  cells = cells;
}

-- an item as an address in each base that `od` prints
abbrev pub item_column : List ℕ → FirstColumn
item_column item = record {
  hexadecimal = number_from 16 0 item;
  decimal = number_from 10 0 item;
  octal = number_from 8 0 item;
  steps = 0;
}

-- the first item of data as an address, if the row has none before them and it may be one
abbrev pub data_column : Form → (groups : List ℕ) → FirstColumn
data_column Plain groups = if is_long (group_of (first_item groups))
    then item_column (first_item groups) else no_column
data_column f groups = no_column

-- a row of cells, if it has some and not too many
abbrev pub row_with : Form → (address group : ℕ) → Order → FirstColumn → List Cell → Option RowView
row_with f address group order column cells =
    if nat_lt 0 (length cells) && nat_lt (length cells) (ROW_BYTES + 1)
    then Some (record {
      form = f;
      address = address;
      group = group;
      order = order;
      column = column;
      cells = cells;
    }) else None

-- the same, if address and bytes are there
abbrev pub row_if : Form → Option ℕ → (group : ℕ) → Order → FirstColumn → Option (List Cell)
    → Option RowView
row_if f (Some address) group order column (Some cells) =
    row_with f address group order column cells
row_if f _ group order column _ = None

-- the row of a form, the digits of an address, the data, and the column after them; bits are none
unfoldable pub parts_row : Form → (digits groups column : List ℕ) → Option RowView
parts_row f digits groups column = if are_bits f groups column then None
    else row_if f (address_of f digits) (group_of (first_item groups)) (data_order f groups column)
    (data_column f groups) (form_cells f groups column)

-- whether a text begins with an address and a colon: eight digits at least
abbrev pub begins_with_address : List ℕ → Bool
begins_with_address text =
    ends_in_colon (first_item text) && nat_lt 8 (length (first_item text))
    && is_some (number_from 16 0 (without_mark (without_last (first_item text))))

-- a line from its first address and colon on, if it has them; and whether an item may begin
abbrev pub from_address : (may_begin : Bool) → List ℕ → Option (List ℕ)
from_address may_begin [] = None
from_address may_begin (b ∷ bs) =
    if may_begin && not (is_gap b) && begins_with_address (b ∷ bs) then Some (b ∷ bs)
    else from_address (is_gap b) bs

-- whether an item is an address without a colon
abbrev pub is_bare_address : List ℕ → Bool
is_bare_address item = nat_lt 3 (length item) && is_some (number_from 16 0 item)

-- the first that is there, or else the second
abbrev pub or_line : Option (List ℕ) → List ℕ → List ℕ
or_line None line = line
or_line (Some text) line = text

-- a line without what the kernel's log puts before an address and its colon; a line that begins
-- with an address has nothing before it
unfoldable pub without_prefix : List ℕ → List ℕ
without_prefix line = if is_bare_address (first_item line) then line
    else or_line (from_address true line) line

-- what follows the words of `devmem2`, if a line begins with them
abbrev pub behind_value : List ℕ → Option (List ℕ)
behind_value line = if starts_with nat_eq line VALUE_AT.now
    then Some (drop (length VALUE_AT.now) line) else None

-- a row of `devmem2`: an address, where that is mapped, and a number
abbrev pub value_parts : (behind : List ℕ) → RowParts
value_parts behind = record {
  form = Value;
  digits = first_item behind;
  bytes = after_item (after_item behind);
  column = [];
}

-- the row of `devmem2`, if it is one, or else the parts of a line after what may come before its
-- address
abbrev pub value_or : Option (List ℕ) → (line : List ℕ) → RowParts
value_or (Some behind) line = value_parts behind
value_or None line = parts_at (without_prefix line)

-- the parts of a line as a row
abbrev pub parts_of : List ℕ → RowParts
parts_of line = value_or (behind_value line) line

-- the row that a line is, if it is one
unfoldable pub row_of : List ℕ → Option RowView
row_of line =
    if nat_lt ROW_LINE_BYTES (length line) then None
    else parts_row (parts_of line).form (parts_of line).digits (parts_of line).bytes
    (parts_of line).column
