-- How dumps are read.
use Rattle.std.specs.Prelude.{ℕ, ◌==◌, ◌||◌, nat_lt, Bool, true, false, if◌then◌else◌, List, [], get_or, length, map, is_some}
use Rattle.scmi_decode.specs.Dump.{first_full, has_mark}
use Rattle.scmi_decode.specs.MessageLine.{behind_event, behind_got}
use Rattle.scmi_decode.specs.declared.form.Form.{Form}
use Rattle.scmi_decode.specs.declared.form.Form.TheVariants.{Plain, Marked, Offset, Equals, Value}
use Rattle.scmi_decode.specs.declared.reading.Reading.{Reading}
use Rattle.scmi_decode.specs.declared.reading.Reading.TheVariants.{Bytes, Words, MarkedBytes, MarkedWords, OffsetBytes, OffsetWords, Event, Run}
use Rattle.scmi_decode.specs.declared.reading.TheConstants.{READINGS}

-- the row of a reading in the table, counted from 0
abbrev pub reading_place : Reading → ℕ
reading_place Bytes = 0
reading_place Words = 1
reading_place MarkedBytes = 2
reading_place MarkedWords = 3
reading_place OffsetBytes = 4
reading_place OffsetWords = 5
reading_place Event = 6
reading_place Run = 7

-- what a reading is called
abbrev pub reading_text : Reading → List ℕ
reading_text r = get_or (map (λ row. row.text.now) READINGS) (reading_place r) []

-- whether an item is a number of several bytes
abbrev pub is_wide : List ℕ → Bool
is_wide item = if has_mark item then nat_lt 4 (length item)
    else (length item == 8) || (length item == 16)

-- how rows of a form are read, whose items are wide or not
abbrev pub rows_reading : Form → Bool → Reading
rows_reading Plain false = Bytes
rows_reading Plain true = Words
rows_reading Marked false = MarkedBytes
rows_reading Marked true = MarkedWords
rows_reading Equals false = MarkedBytes
rows_reading Equals true = MarkedWords
rows_reading Value wide = MarkedWords
rows_reading Offset false = OffsetBytes
rows_reading Offset true = OffsetWords

-- how the items of a line that is an area alone are read
abbrev pub alone_reading : List (List ℕ) → Reading
alone_reading items =
    if is_some (behind_event items) then Event else if is_some (behind_got items) then Run
    else rows_reading Plain (is_wide (first_full items))
