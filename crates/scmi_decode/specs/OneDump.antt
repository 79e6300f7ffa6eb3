-- Inputs that are one dump.
use Rattle.std.specs.Prelude.{◌≡◌, ℕ, ◌+◌, ◌-◌, ◌%◌, ◌^◌, ◌==◌, false, true, List, [], ◌∷◌, ◌++◌, length, take, Option, Some, None, IfSome}
use Rattle.std.specs.List.{slice_split}
use Rattle.scmi_io.specs.Lines.{is_line_feed}
use Rattle.scmi_decode.specs.FirstColumn.{bytes_beside, lack_beside}
use Rattle.scmi_decode.specs.declared.cell.Cell.{Cell}
use Rattle.scmi_decode.specs.declared.first_column.FirstColumn.{FirstColumn}
use Rattle.scmi_decode.specs.declared.no_bytes.NoBytes.{NoBytes}
use Rattle.scmi_decode.specs.declared.no_bytes.NoBytes.TheVariants.{Order}
use Rattle.scmi_decode.specs.DumpEnd.{bytes_before, column_begun, column_with}
use Rattle.scmi_decode.specs.OpenDump.{DumpView, no_dump, added, begun, end_at, goes_on, is_star, seen}
use Rattle.scmi_decode.specs.Row.{RowView, row_of}
use Rattle.scmi_decode.specs.Decoded.{is_remark}
use Rattle.scmi_decode.specs.Finding.{dump_findings}
use Rattle.scmi_decode.specs.Reported.{Reported}
use Rattle.scmi_decode.specs.declared.finding.Finding.{Finding}
use Rattle.scmi_decode.specs.declared.layout.Layout.{Layout}

-- a line is this row
pub record IsRow (line : List ℕ) (r : RowView) : Type 0 where
  pub no_remark : is_remark line ≡ false
  pub not_empty : (length line == 0) ≡ false
  pub row : row_of line ≡ Some r
  pub has_cells : (length r.cells == 0) ≡ false

-- a line is this row after the rows of a dump, and goes on with it
pub record IsNextRow (d : DumpView) (line : List ℕ) (r : RowView) : Type 0 where
  pub alone : RowView
  pub is_row : IsRow line alone
  pub is_seen : seen d alone ≡ r
  pub no_star : is_star d line ≡ false
  pub no_end : end_at d line ≡ None
  pub next : goes_on d r ≡ true

-- a line says that a dump's bytes end at an address, and some come before it
pub record IsEndLine (d : DumpView) (line : List ℕ) (address : ℕ) : Type 0 where
  pub no_remark : is_remark line ≡ false
  pub not_empty : (length line == 0) ≡ false
  pub no_star : is_star d line ≡ false
  pub is_end : end_at d line ≡ Some address
  pub has_cells : (length (bytes_before d.end address) == 0) ≡ false

-- nothing, or the empty line after the last line feed
abbrev pub IsEnd : List (List ℕ) → Type 0
IsEnd [] = Unit {0}
IsEnd ([] ∷ []) = Unit {0}
IsEnd _ = ⊥

-- lines end a dump at an address, or where its rows end
abbrev pub EndsAt : DumpView → Option ℕ → List (List ℕ) → Type 0
EndsAt d None lines = IsEnd lines
EndsAt d (Some address) [] = ⊥
EndsAt d (Some address) (line ∷ lines) = IsEndLine d line address × IsEnd lines

-- rows, each of which goes on with the dump so far, are these lines, up to the end
abbrev pub AreRows : DumpView → List RowView → Option ℕ → List (List ℕ) → Type 0
AreRows d [] end lines = EndsAt d end lines
AreRows d (r ∷ rows) end [] = ⊥
AreRows d (r ∷ rows) end (line ∷ lines) = IsNextRow d line r × AreRows (added d r) rows end lines

-- the rows of one dump, and its end, are these lines
abbrev pub IsDumpOf : Layout → List RowView → Option ℕ → List (List ℕ) → Type 0
IsDumpOf l (r ∷ rows) end (line ∷ lines) = IsRow line r
    × AreRows (begun (no_dump l) 1 r) rows end lines
IsDumpOf l _ _ _ = ⊥

-- the cells of rows, one after the other
abbrev pub rows_cells : List RowView → List Cell
rows_cells [] = []
rows_cells (r ∷ rows) = r.cells ++ rows_cells rows

-- the address after rows, or this one after none
abbrev pub rows_next : ℕ → List RowView → ℕ
rows_next next [] = next
rows_next next (r ∷ rows) = rows_next ((r.address + length r.cells) % 2 ^ 64) rows

-- the cells before an address, of those that end at another
abbrev pub cells_to : Option ℕ → (next : ℕ) → List Cell → List Cell
cells_to None next cells = cells
cells_to (Some address) next cells = take (length cells - (next - address)) cells

-- the column of rows, the first of which go before others
abbrev pub rows_column : FirstColumn → List RowView → FirstColumn
rows_column c [] = c
rows_column c (r ∷ rows) = rows_column (column_with c r) rows

-- the bytes of rows up to the end of their dump, in the order that a column of text shows, or else
-- in that of the first row; none if their first column may be one of addresses
abbrev pub rows_bytes : List RowView → Option ℕ → Option (List ℕ)
rows_bytes [] end = None
rows_bytes (r ∷ rows) end = bytes_beside (rows_column (column_begun r) rows) r.order
    (cells_to end (rows_next 0 (r ∷ rows)) (rows_cells (r ∷ rows)))

-- why they have none
abbrev pub rows_lack : List RowView → NoBytes
rows_lack [] = Order
rows_lack (r ∷ rows) = lack_beside (rows_column (column_begun r) rows)

-- of an input that is one dump, in whatever form, what is found in its bytes is reported
abbrev pub ReportsForms : Layout → (input : Option (List ℕ))
    → (old new : Option (List Finding)) → Type 0
ReportsForms l input old new =
    IfSome input (λ bytes. (rows : List RowView) (end : Option ℕ)
    → IsDumpOf l rows end (slice_split is_line_feed bytes)
    → Reported old new (dump_findings l 1 (rows_lack rows) (rows_bytes rows end)))
