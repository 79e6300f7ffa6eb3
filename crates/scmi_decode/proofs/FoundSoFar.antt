-- Whether an area was found up to a line: the flag of the dump after it is that of what was found.
use Rattle.std.proofs.Common.{◌≡◌, ℕ, ◌+◌, ◌==◌, Bool, true, false, if◌then◌else◌, List, [], ◌∷◌, ◌++◌, length, Option, None, Some, ◌∙◌, sym, ap, refl}
use Rattle.std.specs.Prelude.{◌||◌}
use Rattle.scmi_decode.proofs.Reporting.{any_area-both, or_assoc, or_false}
use Rattle.scmi_decode.specs.Decoded.{dump_after, dump_after_end, dump_after_row, end_found, is_remark, line_found, line_is_area, lines_found, row_found, step_found}
use Rattle.scmi_decode.specs.Finding.{any_area}
use Rattle.scmi_decode.specs.HeldRow.{is_held, is_wide_line, judged_row, lack_behind, repeated_row}
use Rattle.scmi_decode.specs.OpenDump.{DumpView, added, begun, beside, closed, dump_found, end_at, ended, goes_on, holding, is_star, judged, judged_by, repeated, rows_repeated, seen}
use Rattle.scmi_decode.specs.Row.{RowView, row_of}
use Rattle.scmi_decode.specs.declared.no_bytes.NoBytes.{NoBytes}

found_after-alone : (d : DumpView) (n : ℕ) (line : List ℕ)
    → (beside (closed d) (line_is_area d.layout n line)).found
    ≡ (d.found || any_area (dump_found d ++ line_found d.layout n line))
unfolding beside closed
found_after-alone d n line =
    or_assoc d.found (any_area (dump_found d)) (any_area (line_found d.layout n line))
    ∙ ap (λ (b : Bool). d.found || b)
    (sym (any_area-both (dump_found d) (line_found d.layout n line)))

found_after-row : (d : DumpView) (n : ℕ) (line : List ℕ) (lack : Option NoBytes)
    (row : Option RowView)
    → (dump_after_row d n line lack row).found ≡ (d.found || any_area (row_found d n line row))
unfolding begun closed added holding
found_after-row d n line lack None = by (is_wide_line line) where
  by : (wide : Bool)
      → (if wide then holding (closed d) n line lack
      else beside (closed d) (line_is_area d.layout n line)).found
      ≡ (d.found
      || any_area (if wide then dump_found d else dump_found d ++ line_found d.layout n line))
  by true = refl
  by false = found_after-alone d n line
found_after-row d n line lack (Some r) = by (goes_on d (seen d r)) where
  by : (goes : Bool) → (if goes then added d (seen d r) else begun (closed d) n r).found
      ≡ (d.found || any_area (if goes then [] else dump_found d))
  by true = sym (or_false d.found)
  by false = refl

judged-found : (d : DumpView) (lack : Option NoBytes) → (judged d lack).found ≡ d.found
unfolding judged
judged-found d lack = by (is_held d.held) where
  by : (held : Bool)
      → (if held then record d { held = judged_row d.held lack } else d).found ≡ d.found
  by true = refl
  by false = refl

repeated-found : (d : DumpView) → (repeated d).found ≡ d.found
unfolding repeated
repeated-found d = by (is_held d.held) where
  by : (held : Bool)
      → (if held then record d { held = repeated_row d.held } else rows_repeated d).found ≡ d.found
  by true = refl
  by false = refl

found_after-end : (d : DumpView) (n : ℕ) (line : List ℕ) (address : Option ℕ)
    → (dump_after_end d n line address).found ≡ (d.found || any_area (end_found d n line address))
unfolding closed ended
found_after-end d n line (Some address) = refl
found_after-end d n line None =
    found_after-row (judged_by d line) n line (lack_behind d.layout d.held line) (row_of line)
    ∙ ap (λ (b : Bool). b || any_area (row_found (judged_by d line) n line (row_of line)))
    (judged-found d (lack_behind d.layout d.held line))

found_after : (d : DumpView) (n : ℕ) (line : List ℕ)
    → (dump_after d n line).found ≡ (d.found || any_area (step_found d n line))
unfolding dump_after step_found closed
found_after d n line = by (is_remark line) (length line == 0) (is_star d line) where
  by : (remark empty star : Bool)
      → (if remark then d else if empty then closed d else if star then repeated d
      else dump_after_end d n line (end_at d line)).found
      ≡ (d.found || any_area (if remark then [] else if empty then dump_found d else if star then []
      else end_found d n line (end_at d line)))
  by true empty star = sym (or_false d.found)
  by false true star = refl
  by false false true = repeated-found d ∙ sym (or_false d.found)
  by false false false = found_after-end d n line (end_at d line)

-- what is found from a line on is what is found at it, and from the next one on
pub found_from : (d : DumpView) (n : ℕ) (line : List ℕ) (lines : List (List ℕ))
    → ((dump_after d n line).found || any_area (lines_found (dump_after d n line) (n + 1) lines))
    ≡ (d.found || any_area (lines_found d n (line ∷ lines)))
found_from d n line lines =
    ap (λ (b : Bool). b || any_area (lines_found (dump_after d n line) (n + 1) lines))
    (found_after d n line)
    ∙ or_assoc d.found (any_area (step_found d n line))
    (any_area (lines_found (dump_after d n line) (n + 1) lines))
    ∙ ap (λ (b : Bool). d.found || b) (sym
    (any_area-both (step_found d n line) (lines_found (dump_after d n line) (n + 1) lines)))
