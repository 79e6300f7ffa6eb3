-- What is found in an input.
use Rattle.std.specs.Prelude.{ℕ, ◌+◌, ◌==◌, ◌&&◌, ◌||◌, nat_eq, nat_lt, not, Bool, if◌then◌else◌, List, [], ◌∷◌, ◌++◌, length, slice_index, Option, Some, None, IfSome}
use Rattle.std.specs.List.{slice_split, starts_with}
use Rattle.scmi_io.specs.Lines.{is_line_feed}
use Rattle.scmi_decode.specs.Dump.{is_gap}
use Rattle.scmi_decode.specs.Finding.{any_area, dump_findings}
use Rattle.scmi_decode.specs.HeldRow.{is_wide_line, lack_behind}
use Rattle.scmi_decode.specs.MessageLine.{alone_bytes, alone_lack, items_layout}
use Rattle.scmi_decode.specs.OpenDump.{DumpView, no_dump, dump_found, goes_on, added, begun, beside, closed, ended, holding, judged_by, repeated, is_star, end_at, seen}
use Rattle.scmi_decode.specs.Reported.{Reported}
use Rattle.scmi_decode.specs.Row.{RowView, row_of}
use Rattle.scmi_decode.specs.declared.finding.Finding.{Finding}
use Rattle.scmi_decode.specs.declared.layout.Layout.{Layout}
use Rattle.scmi_decode.specs.declared.no_bytes.NoBytes.{NoBytes}
use Rattle.scmi_decode.specs.declared.step.TheConstants.{MAPPED, OPENED, REMARK}

-- whether a line is neither empty nor begins with `#`
abbrev pub is_described : List ℕ → Bool
is_described line = nat_lt 0 (length line) && not (slice_index line 0 == 35)

-- what is found at a line that is a dump of its own
abbrev pub line_found : Layout → ℕ → List ℕ → List Finding
line_found l number line =
    if is_described line then dump_findings (items_layout l (slice_split is_gap line)) number
    (alone_lack line) (alone_bytes line) else []

-- whether an area is found there
abbrev pub line_is_area : Layout → ℕ → List ℕ → Bool
line_is_area l number line = any_area (line_found l number line)

-- whether a line is skipped: it begins with `#`, or as the lines that `devmem2` prints beside each
-- number
abbrev pub is_remark : List ℕ → Bool
is_remark line = starts_with nat_eq line REMARK.now || starts_with nat_eq line OPENED.now
    || starts_with nat_eq line MAPPED.now

-- what is found at a line by the row that it is, if it is one: a row that goes on with the dump is
-- added to it, and any other line ends it; a wide row is found once the line behind it is known
abbrev pub row_found : DumpView → ℕ → List ℕ → Option RowView → List Finding
row_found d number line None =
    if is_wide_line line then dump_found d else dump_found d ++ line_found d.layout number line
row_found d number line (Some r) = if goes_on d (seen d r) then [] else dump_found d

-- the dump after such a line, which is refused for this if it is a wide row
abbrev pub dump_after_row : DumpView → ℕ → List ℕ → Option NoBytes → Option RowView → DumpView
dump_after_row d number line lack None =
    if is_wide_line line then holding (closed d) number line lack
    else beside (closed d) (line_is_area d.layout number line)
dump_after_row d number line lack (Some r) = if goes_on d (seen d r) then added d (seen d r)
    else begun (closed d) number r

-- what is found at a line that ends the dump at an address, or else by its row
abbrev pub end_found : DumpView → ℕ → List ℕ → Option ℕ → List Finding
end_found d number line (Some address) = dump_found (ended d address)
end_found d number line None = row_found (judged_by d line) number line (row_of line)

-- the dump after such a line
abbrev pub dump_after_end : DumpView → ℕ → List ℕ → Option ℕ → DumpView
dump_after_end d number line (Some address) = closed (ended d address)
dump_after_end d number line None =
    dump_after_row (judged_by d line) number line (lack_behind d.layout d.held line) (row_of line)

-- what is found at a line: nothing at a comment; an empty line ends the dump
unfoldable pub step_found : DumpView → ℕ → List ℕ → List Finding
step_found d number line =
    if is_remark line then [] else if length line == 0 then dump_found d
    else if is_star d line then []
    else end_found d number line (end_at d line)

-- the dump after a line
unfoldable pub dump_after : DumpView → ℕ → List ℕ → DumpView
dump_after d number line =
    if is_remark line then d else if length line == 0 then closed d else if is_star d line
    then repeated d
    else dump_after_end d number line (end_at d line)

-- what is found in lines that are numbered from n, whether a dump is open or not
abbrev pub lines_found : DumpView → ℕ → List (List ℕ) → List Finding
lines_found d n [] = dump_found d
lines_found d n (line ∷ lines) =
    step_found d n line ++ lines_found (dump_after d n line) (n + 1) lines

-- what is found in an input, whose lines are numbered from 1 and whose dumps have their areas so
abbrev pub findings_of : Layout → List ℕ → List Finding
findings_of l input = lines_found (no_dump l) 1 (slice_split is_line_feed input)

-- whether an input has an area
abbrev pub has_area : Layout → List ℕ → Bool
has_area l input = any_area (findings_of l input)

-- what is reported is what is found in an input, if its bytes are known
abbrev pub IsDecoded : Layout → (input : Option (List ℕ))
    → (old new : Option (List Finding)) → Type 0
IsDecoded l input old new = IfSome input (λ bytes. Reported old new (findings_of l bytes))
