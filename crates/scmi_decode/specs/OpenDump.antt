-- A dump over several lines, as far as it was read.
use Rattle.std.specs.Prelude.{ℕ, ◌==◌, ◌&&◌, ◌||◌, not, Bool, true, false, if◌then◌else◌, List, [], length, slice_index, Option, Some, None}
use Rattle.scmi_decode.specs.FirstColumn.{bytes_beside, counts, is_hexadecimal_alone, lack_beside}
use Rattle.scmi_decode.specs.DumpEnd.{EndView, no_end, addressed, made_unclear, end_of, emptied, ended_at, extended_to, is_base_sure, is_even, lacks_rows, line_end, reaches, repeating, row_bare, takes}
use Rattle.scmi_decode.specs.Finding.{any_area, dump_findings}
use Rattle.scmi_decode.specs.HeldRow.{HeldView, held_found, held_row, is_held, judged_row, lack_behind, no_held, released, repeated_row}
use Rattle.scmi_decode.specs.Row.{RowView, offset_row}
use Rattle.scmi_decode.specs.Scan.{first_item, has_one_item}
use Rattle.scmi_decode.specs.declared.finding.Finding.{Finding}
use Rattle.scmi_decode.specs.declared.form.Form.{Form}
use Rattle.scmi_decode.specs.declared.form.Form.TheVariants.{Plain, Marked, Offset, Equals, Value}
use Rattle.scmi_decode.specs.declared.layout.Layout.{Layout}
use Rattle.scmi_decode.specs.declared.no_bytes.NoBytes.{NoBytes}
use Rattle.scmi_decode.specs.declared.no_bytes.NoBytes.TheVariants.{Repeats}

-- a dump, which has no bytes if none is open: which bytes of it are areas; the number of its first
-- line, its form, its rows so far; the wide row that it is, if it is one; and whether an area was
-- found before
pub record DumpView : Type 0 where
  pub layout : Layout
  pub first : ℕ
  pub form : Form
  pub end : EndView
  pub held : HeldView
  pub found : Bool

-- no dump, and no area found
abbrev pub no_dump : Layout → DumpView
no_dump l =
    record { layout = l; first = 0; form = Plain; end = no_end; held = no_held; found = false }

-- the bytes of a dump, in the order of its digits; none if its first column may be one of
-- addresses, or if it is unclear how often a row repeats
abbrev pub dump_bytes : DumpView → Option (List ℕ)
dump_bytes d = if lacks_rows d.end then None else bytes_beside d.end.column d.end.order d.end.cells

-- why it has none
abbrev pub dump_lack : DumpView → NoBytes
dump_lack d =
    if lacks_rows d.end && not (counts d.end.column) then Repeats else lack_beside d.end.column

-- whether a dump is open
abbrev pub is_open : DumpView → Bool
is_open d = not (length d.end.cells == 0)

-- what is found in a dump once it has ended
abbrev pub dump_found : DumpView → List Finding
dump_found d =
    if is_held d.held then held_found d.layout d.held
    else if is_open d then dump_findings d.layout d.first (dump_lack d) (dump_bytes d) else []

-- whether two forms are the same
abbrev pub same_form : Form → Form → Bool
same_form Plain Plain = true
same_form Marked Marked = true
same_form Offset Offset = true
same_form Equals Equals = true
same_form Value Value = true
same_form f g = false

-- a row whose first item is this address
abbrev pub row_at : RowView → (address : Option ℕ) → RowView
row_at r None = r
row_at r (Some address) = offset_row address r.group (row_bare r)

-- the first that is there, or else the second
abbrev pub or_row : Option RowView → RowView → RowView
or_row None r = r
or_row (Some seen) r = seen

-- a row as it is after the rows of a dump: if these have addresses alone, its first item is one too
abbrev pub seen : DumpView → RowView → RowView
seen d r = if same_form d.form Offset && same_form r.form Plain
    then row_at r r.column.hexadecimal else r

-- whether a row goes on with a dump: it has the same form and groups, follows the last row, and is
-- not longer than the first; and no shorter row came before it
unfoldable pub goes_on : DumpView → RowView → Bool
goes_on d r = is_open d && same_form d.form r.form && takes d.end r
    && (same_form r.form Plain || reaches d.end r.address)

-- a dump that goes on with a row
unfoldable pub added : DumpView → RowView → DumpView
added d r = record d { end = extended_to d.end r }

-- a dump that begins with a row, at a line of this number
unfoldable pub begun : DumpView → ℕ → RowView → DumpView
begun d number r = record {
  layout = d.layout;
  first = number;
  form = r.form;
  end = end_of r;
  held = d.held;
  found = d.found;
}

-- a dump that ends at an address
unfoldable pub ended : DumpView → ℕ → DumpView
ended d address = record d { end = ended_at d.end address }

-- a dump that has ended
unfoldable pub closed : DumpView → DumpView
closed d = record d {
  end = emptied d.end;
  held = released d.held;
  found = d.found || any_area (dump_found d);
}

-- a dump that is the wide row of a line of this number, and why that is refused, if it is
unfoldable pub holding : DumpView → ℕ → List ℕ → Option NoBytes → DumpView
holding d number line lack = record d { held = held_row number line lack }

-- a dump whose wide row, if it is one, is refused for this too
unfoldable pub judged : DumpView → Option NoBytes → DumpView
judged d lack = if is_held d.held then record d { held = judged_row d.held lack } else d

-- a dump whose wide row, if it is one, is refused if the line behind it shows that
abbrev pub judged_by : DumpView → List ℕ → DumpView
judged_by d line = judged d (lack_behind d.layout d.held line)

-- a dump beside which an area was found or not
unfoldable pub beside : DumpView → Bool → DumpView
beside d area = record d { found = d.found || area }

-- the form of a dump whose last row repeats: then its first items are addresses
abbrev pub form_repeated : Form → Form
form_repeated Plain = Offset
form_repeated f = f

-- rows with these addresses, of which the last one repeats
abbrev pub end_repeated : Form → EndView → (next : Option ℕ) → EndView
end_repeated Plain e (Some next) = addressed e next
end_repeated f e next = repeating e

-- whether the addresses of rows of a form, and their base, are known: a dump without addresses has
-- a first column that counts its bytes
abbrev pub has_addresses : Form → EndView → Bool
has_addresses Plain e = counts e.column && is_hexadecimal_alone e.column
has_addresses f e = is_base_sure e

-- whether the next address will show how often the last row repeats: addresses are known, and no
-- shorter row and no unclear `*` came before
abbrev pub may_repeat : Form → EndView → Bool
may_repeat f e = not e.unclear && is_even e && has_addresses f e

-- rows of which the last one repeats, up to the next address if that will show how often
abbrev pub rows_repeated : DumpView → DumpView
rows_repeated d = record d {
  form = if may_repeat d.form d.end then form_repeated d.form else d.form;
  end =
      if may_repeat d.form d.end then end_repeated d.form d.end d.end.column.hexadecimal
      else made_unclear d.end;
}

-- a dump whose last row repeats; how often a wide one does is unclear
unfoldable pub repeated : DumpView → DumpView
repeated d = if is_held d.held then record d { held = repeated_row d.held } else rows_repeated d

-- whether a line is `*` alone, by which the last row of a dump repeats
unfoldable pub is_star : DumpView → List ℕ → Bool
is_star d line =
    (is_held d.held || is_open d) && (length (first_item line) == 1)
    && (slice_index (first_item line) 0 == 42) && has_one_item line

-- the address of a line that ends a dump as `hexdump` and `od` do: it has an address alone, that at
-- which the dump's bytes end, or any if rows are left out
unfoldable pub end_at : DumpView → List ℕ → Option ℕ
end_at d line = if is_open d && same_form d.form Offset then line_end d.end line else None
