-- Where a dump ends, as far as it was read.
use Rattle.std.specs.Prelude.{ℕ, zero, suc, ◌+◌, ◌-◌, ◌/◌, ◌%◌, ◌^◌, ◌==◌, ◌&&◌, ◌||◌, nat_le, nat_lt, not, Bool, true, false, if◌then◌else◌, List, [], ◌++◌, length, take, drop, Option, Some, None}
use Rattle.std.specs.List.{list_all}
use Rattle.scmi_decode.specs.Cell.{is_zero_in, order_shown}
use Rattle.scmi_decode.specs.FirstColumn.{column_after, followed, has_base, no_column}
use Rattle.scmi_decode.specs.Row.{RowView, address_of}
use Rattle.scmi_decode.specs.Scan.{first_item, has_one_item}
use Rattle.scmi_decode.specs.declared.cell.Cell.{Cell}
use Rattle.scmi_decode.specs.declared.first_column.FirstColumn.{FirstColumn}
use Rattle.scmi_decode.specs.declared.dump_end.repeated.TheConstants.{REPEATED_BYTES, SURE_BYTES}
use Rattle.scmi_decode.specs.declared.form.Form.TheVariants.{Offset}
use Rattle.scmi_decode.specs.declared.order.Order.{Order}
use Rattle.scmi_decode.specs.declared.order.Order.TheVariants.{Straight, Turned}

-- the rows of a dump so far: the address after the last one, how many bytes the first one has, how
-- many digits the first group of the last one has, in which order those of the first one are,
-- whether the last one repeats up to the next address, whether it is unclear how often a row of it
-- repeats, the addresses that their first items may be, their bytes, and those without the first
-- items if these may be addresses
pub record EndView : Type 0 where
  pub next : ℕ
  pub width : ℕ
  pub group : ℕ
  pub order : Order
  pub repeats : Bool
  pub unclear : Bool
  pub column : FirstColumn
  pub cells : List Cell
  pub bare : List Cell

-- no rows
abbrev pub no_end : EndView
no_end = record {
  next = 0;
  width = 0;
  group = 0;
  order = Straight;
  repeats = false;
  unclear = false;
  column = no_column;
  cells = [];
  bare = [];
}

-- how many bytes of a row come after its first group
abbrev pub bytes_after_group : RowView → ℕ
bytes_after_group r = length r.cells - r.group / 2

-- the column of one row: an address alone begins none
abbrev pub column_begun : RowView → FirstColumn
column_begun r = if bytes_after_group r == 0 then no_column
    else column_after (bytes_after_group r) r.column

-- how many bytes the item of a row may be less than the expected address: an address alone, after a
-- number that `od` filled up, is in that number
abbrev pub slack_of : RowView → ℕ
slack_of r = if bytes_after_group r == 0 then r.group / 2 - 1 else 0

-- a column with one more row
abbrev pub column_with : FirstColumn → RowView → FirstColumn
column_with c r = followed (slack_of r) (bytes_after_group r) c r.column

-- the bytes of a row without its first item, if that may be an address
abbrev pub row_bare : RowView → List Cell
row_bare r = if has_base r.column then drop (r.group / 2) r.cells else []

-- one row
unfoldable pub end_of : RowView → EndView
end_of r = record {
  next = (r.address + length r.cells) % 2 ^ 64;
  width = length r.cells;
  group = r.group;
  order = r.order;
  repeats = false;
  unclear = false;
  column = column_begun r;
  cells = r.cells;
  bare = row_bare r;
}

-- rows without their bytes
unfoldable pub emptied : EndView → EndView
emptied e = record e { cells = []; bare = [] }

-- rows of which the last one repeats
unfoldable pub repeating : EndView → EndView
repeating e = record e { repeats = true }

-- rows of which it is unclear how often one repeats
unfoldable pub made_unclear : EndView → EndView
made_unclear e = record e { repeats = false; unclear = true }

-- whether rows are fewer than their dump has: it is unclear how often one repeats, or no address
-- says it
abbrev pub lacks_rows : EndView → Bool
lacks_rows e = e.unclear || e.repeats

-- repeating rows, if their first items are addresses, of which this is the next; they have no bytes
-- before that is read
unfoldable pub addressed : EndView → (next : ℕ) → EndView
addressed e next = record e {
  next = next;
  width = e.width - e.group / 2;
  order = Turned;
  repeats = true;
  cells = e.bare;
  bare = [];
}

-- whether the rows so far have the same length
abbrev pub is_even : EndView → Bool
is_even e = not (e.width == 0) && (length e.cells % e.width == 0)

-- whether the base of addresses is sure: by so many bytes of rows hexadecimal, decimal and octal
-- digits of an address differ, so only in one base does the last row follow the first
abbrev pub is_base_sure : EndView → Bool
is_base_sure e = nat_le SURE_BYTES (length e.cells - e.width)

-- whether the groups of a row are those of a dump's first row; those of a shorter row may be
-- shorter
abbrev pub has_its_groups : EndView → RowView → Bool
has_its_groups e r =
    (r.group == e.group) || (nat_lt r.group e.group && nat_lt (length r.cells) e.width)

-- whether a row has the same groups as the rows so far, and is not longer than the first; and no
-- shorter row came before it
abbrev pub takes : EndView → RowView → Bool
takes e r = has_its_groups e r && is_even e && nat_le (length r.cells) e.width

-- whether a row at an address, or an end there, is of the same dump: it is the one after the last
-- row, or rows between them are left out
abbrev pub reaches : EndView → ℕ → Bool
reaches e address = lacks_rows e || (address == e.next)

-- whether an address is whole rows after the last one, and not too far
abbrev pub is_rows_on : EndView → ℕ → Bool
is_rows_on e address =
    not (e.width == 0) && nat_le e.next address && nat_le (address - e.next) REPEATED_BYTES
    && ((address - e.next) % e.width == 0)

-- copies of bytes, as many as the number
abbrev pub copies : ℕ → List Cell → List Cell
copies zero row = []
copies (suc n) row = copies n row ++ row

-- how many rows the last one is repeated before an address
abbrev pub rows_before : EndView → ℕ → ℕ
rows_before e address = if e.width == 0 then 0 else (address - e.next) / e.width

-- the last row
abbrev pub last_row : EndView → List Cell
last_row e = drop (length e.cells - e.width) e.cells

-- rows of which the last one is repeated up to an address; that shows what their first items are
unfoldable pub repeated_to : EndView → ℕ → EndView
repeated_to e address = record e {
  cells = e.cells ++ copies (rows_before e address) (last_row e);
  repeats = false;
  column = no_column;
}

-- rows of which the last one, if it repeats, does so up to an address, if that is whole rows on
unfoldable pub filled : EndView → ℕ → EndView
filled e address =
    if e.repeats
    then (if is_rows_on e address then repeated_to e address else made_unclear e) else e

-- the bytes before an address, if that is not after the last row
abbrev pub bytes_before : EndView → ℕ → List Cell
bytes_before e address = take (length e.cells - (e.next - address)) e.cells

-- the bytes from such an address on
abbrev pub bytes_behind : EndView → ℕ → List Cell
bytes_behind e address = drop (length e.cells - (e.next - address)) e.cells

-- rows without their bytes from such an address on; all of them if it is unclear how often one
-- repeats
unfoldable pub cut : EndView → ℕ → EndView
cut e address = if e.unclear then e else record e { cells = bytes_before e address }

-- rows that end at an address: the last one is repeated up to there, or what fills its last group
-- is no part of it
abbrev pub ended_at : EndView → ℕ → EndView
ended_at e address = cut (filled e address) address

-- one more row after the last
unfoldable pub extended : EndView → RowView → EndView
extended e r = record e {
  cells = e.cells ++ r.cells;
  next = (r.address + length r.cells) % 2 ^ 64;
  group = r.group;
  column = column_with e.column r;
  bare = e.bare ++ row_bare r;
}

-- the same, if the last one may repeat up to there
abbrev pub extended_to : EndView → RowView → EndView
extended_to e r = extended (filled e r.address) r

-- whether an address is in the last group, and not at its begin
abbrev pub is_in_last_group : EndView → ℕ → Bool
is_in_last_group e address = nat_lt address e.next && nat_lt (e.next - address) (e.group / 2)

-- whether bytes are zeros in the order that the bytes before them have
abbrev pub are_zeros : Order → (before behind : List Cell) → Bool
are_zeros o before behind = list_all (is_zero_in (order_shown o before)) behind

-- whether the last group is filled up from an address on, as `od` does by zeros
unfoldable pub is_filled_from : EndView → ℕ → Bool
is_filled_from e address = is_in_last_group e address && are_zeros e.order (bytes_before e address)
    (bytes_behind e address)

-- an address, if a dump may end there
abbrev pub if_end : EndView → Option ℕ → Option ℕ
if_end e None = None
if_end e (Some address) = if reaches e address || is_filled_from e address
    then Some address else None

-- the address of a line that has an address alone, that at which the bytes end, or any if rows are
-- left out
unfoldable pub line_end : EndView → List ℕ → Option ℕ
line_end e line = if has_one_item line then if_end e (address_of Offset (first_item line)) else None
