-- A row of more bytes than others have, which waits for the line behind it.
use Rattle.std.specs.Prelude.{ℕ, ◌+◌, ◌-◌, ◌/◌, ◌==◌, ◌&&◌, ◌||◌, nat_le, nat_lt, not, Bool, true, false, if◌then◌else◌, List, [], length, Option, Some, None}
use Rattle.std.specs.List.{slice_split}
use Rattle.std.specs.Option.{option_map, option_or}
use Rattle.scmi_codec.specs.declared.area.TheConstants.{AREA_BYTES}
use Rattle.scmi_decode.specs.Dump.{is_gap, items_bytes}
use Rattle.scmi_decode.specs.Finding.{dump_findings}
use Rattle.scmi_decode.specs.FirstColumn.{column_after, has_base, met_by, no_column}
use Rattle.scmi_decode.specs.MessageLine.{alone_bytes, alone_lack, is_message}
use Rattle.scmi_decode.specs.Row.{item_column}
use Rattle.scmi_decode.specs.Scan.{after_item, first_item, has_one_item}
use Rattle.scmi_decode.specs.WideRow.{is_wide_row}
use Rattle.scmi_decode.specs.declared.finding.Finding.{Finding}
use Rattle.scmi_decode.specs.declared.first_column.FirstColumn.{FirstColumn}
use Rattle.scmi_decode.specs.declared.layout.Layout.{Layout}
use Rattle.scmi_decode.specs.declared.layout.Layout.TheVariants.{Whole, From}
use Rattle.scmi_decode.specs.declared.no_bytes.NoBytes.{NoBytes}
use Rattle.scmi_decode.specs.declared.no_bytes.NoBytes.TheVariants.{Part, Repeats, WideRow}
use Rattle.scmi_decode.specs.declared.row.TheConstants.{ROW_BYTES}

-- how many bytes items have, if each of them has some
abbrev pub items_size : List (List ℕ) → Option ℕ
items_size items = option_map length (items_bytes false items)

-- the same of a line
abbrev pub line_size : List ℕ → Option ℕ
line_size line = items_size (slice_split is_gap line)

-- whether so many bytes are more than a row has
abbrev pub is_more : Option ℕ → Bool
is_more None = false
is_more (Some size) = nat_lt ROW_BYTES size

-- whether items of so many bytes are a wide row: they report no message, and have more bytes than a
-- row, or may have an address before them
abbrev pub are_wide : List (List ℕ) → (size : Option ℕ) → Bool
are_wide items size = not (is_message items) && (is_wide_row items || is_more size)

-- whether a line is one
abbrev pub is_wide_line : List ℕ → Bool
is_wide_line line = are_wide (slice_split is_gap line) (line_size line)

-- an item as an address, if it has as many digits as an address alone
abbrev pub address_column : List ℕ → FirstColumn
address_column item =
    if nat_lt 5 (length item) && nat_lt (length item) 17 then item_column item else no_column

-- the addresses after so many bytes, if these are known
abbrev pub column_behind : FirstColumn → Option ℕ → FirstColumn
column_behind c None = no_column
column_behind c (Some size) = column_after size c

-- the addresses after a wide row, if its first item is one
abbrev pub next_column : List ℕ → FirstColumn
next_column row = column_behind (address_column (first_item row)) (line_size (after_item row))

-- with how many bytes `od` may have filled up the last number of a line, by the digits of its first
abbrev pub filling : List ℕ → ℕ
filling line = if nat_lt (length (first_item line)) 17 then length (first_item line) / 2 - 1 else 0

-- how many bytes the address of a line may be less than the expected one: in the last line of `od`,
-- which has one item, it may be in the number before it
abbrev pub slack_behind : (row line : List ℕ) → ℕ
slack_behind row line = if has_one_item line then filling row else 0

-- whether the first items of a wide row and of the line behind it count its bytes, as addresses do
abbrev pub counts_on : (row line : List ℕ) → Bool
counts_on row line =
    has_base (met_by (slack_behind row line) (next_column row) (address_column (first_item line)))

-- whether the line behind a row has bytes, no more than the row, and both together have no more
-- from an offset on than an area, without what fills up the last number
abbrev pub fit_one_area : (offset fill row line : ℕ) → Bool
fit_one_area offset fill row line =
    nat_lt 0 line && nat_le line row && nat_le (row - offset + (line - fill)) AREA_BYTES

-- whether a row and the line behind it may be parts of one area: a size of areas says that they
-- are not
abbrev pub may_be_parts : Layout → (fill : ℕ) → (row line : Option ℕ) → Bool
may_be_parts Whole fill (Some m) (Some n) = fit_one_area 0 fill m n
may_be_parts (From offset) fill (Some m) (Some n) = fit_one_area offset fill m n
may_be_parts l fill row line = false

-- a wide row: the number of its line, its line, which is empty if no row is held, and why the lines
-- beside it refuse it
pub record HeldView : Type 0 where
  pub number : ℕ
  pub line : List ℕ
  pub lack : Option NoBytes

-- no row
abbrev pub no_held : HeldView
no_held = record { number = 0; line = []; lack = None }

-- the row of a line of this number
abbrev pub held_row : ℕ → List ℕ → Option NoBytes → HeldView
held_row number line lack = record { number = number; line = line; lack = lack }

-- whether a row is held
abbrev pub is_held : HeldView → Bool
is_held h = not (length h.line == 0)

-- a row that is held no more
unfoldable pub released : HeldView → HeldView
released h = record h { line = []; lack = None }

-- a row that is refused for this too
unfoldable pub judged_row : HeldView → Option NoBytes → HeldView
judged_row h lack = record h { lack = option_or h.lack lack }

-- a row that repeats, as `*` behind it says
unfoldable pub repeated_row : HeldView → HeldView
repeated_row h = record h { lack = Some Repeats }

-- whether it is refused for that
abbrev pub is_repeated : Option NoBytes → Bool
is_repeated (Some Repeats) = true
is_repeated lack = false

-- why a row and the line behind it are refused: their first items may be addresses, or they may be
-- parts of one area
abbrev pub pair_lack : Layout → (row line : List ℕ) → Option NoBytes
pair_lack l row line =
    if counts_on row line then Some WideRow
    else if may_be_parts l (filling line) (line_size row) (line_size line) then Some Part else None

-- why the row that is held and the line behind it are refused: the row repeats, or both are a pair
abbrev pub lack_behind : Layout → HeldView → (line : List ℕ) → Option NoBytes
lack_behind l h line =
    if not (is_held h) then None else if is_repeated h.lack then Some Repeats
    else pair_lack l h.line line

-- what is found in a row of these bytes: they are none if the row alone shows that, or else if the
-- lines beside it refuse it
abbrev pub found_beside : Layout → (number : ℕ) → Option (List ℕ) → (beside : Option NoBytes)
    → (alone : NoBytes) → List Finding
found_beside l number (Some bytes) (Some lack) alone = dump_findings l number lack None
found_beside l number own beside alone = dump_findings l number alone own

-- what is found in a row that is held
abbrev pub held_found : Layout → HeldView → List Finding
held_found l h = found_beside l h.number (alone_bytes h.line) h.lack (alone_lack h.line)
