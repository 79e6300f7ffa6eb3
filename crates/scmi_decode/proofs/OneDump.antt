-- What is found in an input that is one dump is what is found in its bytes, in whatever form they
-- are.
use Rattle.std.proofs.Common.{◌≡◌, ℕ, ◌+◌, Bool, true, false, List, [], ◌∷◌, ◌++◌, length, take, Option, None, Some, ◌∙◌, sym, ap, refl, subst, true≢false, arith, append_assoc, append-nil}
use Rattle.std.specs.Prelude.{◌-◌, ◌==◌, ◌||◌, not}
use Rattle.std.specs.List.{slice_split}
use Rattle.std.proofs.lemmas.Bool.Decides.{nat_tests}
use Rattle.std.proofs.lemmas.List.{length-append}
use Rattle.scmi_io.specs.Lines.{is_line_feed}
use Rattle.scmi_decode.specs.DumpEnd.{EndView, bytes_before, column_with, cut, emptied, end_of, extended, filled, lacks_rows}
use Rattle.scmi_decode.specs.OpenDump.{DumpView, no_dump, added, begun, closed, dump_found, end_at, ended, goes_on, is_open, is_star, judged}
use Rattle.scmi_decode.specs.Finding.{dump_findings}
use Rattle.scmi_decode.specs.Reported.{Reported}
use Rattle.scmi_decode.specs.HeldRow.{is_held, released}
use Rattle.scmi_decode.specs.declared.finding.Finding.{Finding}
use Rattle.scmi_decode.specs.declared.layout.Layout.{Layout}
use Rattle.scmi_decode.specs.Row.{RowView}
use Rattle.scmi_decode.specs.Decoded.{IsDecoded, dump_after, lines_found, step_found}
use Rattle.scmi_decode.specs.FirstColumn.{bytes_beside, lack_beside}
use Rattle.scmi_decode.specs.declared.cell.Cell.{Cell}
use Rattle.scmi_decode.specs.declared.first_column.FirstColumn.{FirstColumn}
use Rattle.scmi_decode.specs.declared.order.Order.{Order}
use Rattle.scmi_decode.specs.OneDump.{AreRows, IsDumpOf, IsEnd, IsEndLine, IsNextRow, IsRow, ReportsForms, cells_to, rows_bytes, rows_cells, rows_column, rows_lack, rows_next}

step_found-row : (d : DumpView) (n : ℕ) (line : List ℕ) (r : RowView) → is_held d.held ≡ false
    → IsNextRow d line r → step_found d n line ≡ []
unfolding step_found judged
step_found-row d n line r alone is = rw (
  is.is_row.no_remark,
  is.is_row.not_empty,
  is.no_star,
  is.no_end,
  alone,
  is.is_row.row,
  is.is_seen,
  is.next,
) refl

dump_after-row : (d : DumpView) (n : ℕ) (line : List ℕ) (r : RowView) → is_held d.held ≡ false
    → IsNextRow d line r → dump_after d n line ≡ added d r
unfolding dump_after judged
dump_after-row d n line r alone is = rw (
  is.is_row.no_remark,
  is.is_row.not_empty,
  is.no_star,
  is.no_end,
  alone,
  is.is_row.row,
  is.is_seen,
  is.next,
) refl

or_none : (a b : Bool) → (a || b) ≡ false → (a ≡ false) × (b ≡ false)
or_none true b none = absurd (true≢false none)
or_none false b none = (refl, none)

-- rows of which none is left out
filled-none : (e : EndView) (address : ℕ) → lacks_rows e ≡ false → filled e address ≡ e
unfolding filled
filled-none e address none = rw (or_none e.unclear e.repeats none).1 refl

-- a dump that goes on with a row, if no row is left out before it
abbrev grown : DumpView → RowView → DumpView
grown d r = record d { end = extended d.end r }

added-is : (d : DumpView) (r : RowView) → lacks_rows d.end ≡ false → added d r ≡ grown d r
unfolding added
added-is d r none =
    ap (λ (e : EndView). record d { end = extended e r }) (filled-none d.end r.address none)

grown-open : (d : DumpView) (r : RowView) → is_open d ≡ true → is_open (grown d r) ≡ true
unfolding extended
grown-open d r open_now =
    let size = length-append d.end.cells r.cells in
    grind (arith, nat_tests, size)

closed-found : (d : DumpView) → dump_found (closed d) ≡ []
unfolding closed emptied released
closed-found d = refl

empty-found : (d : DumpView) (n : ℕ) → lines_found d n ([] ∷ []) ≡ dump_found d
unfolding step_found dump_after
empty-found d n = ap (λ (t : List Finding). dump_found d ++ t) (closed-found d)
    ∙ append-nil (dump_found d)

-- what is found in cells in an order, after a number, beside a first column
abbrev cells_found : Layout → ℕ → Order → FirstColumn → List Cell → List Finding
cells_found l n o c cells = dump_findings l n (lack_beside c) (bytes_beside c o cells)

open-found : (d : DumpView) → is_held d.held ≡ false → is_open d ≡ true → lacks_rows d.end ≡ false
    → dump_found d ≡ cells_found d.layout d.first d.end.order d.end.column (d.end.cells ++ [])
open-found d alone open_now none =
    rw (alone, open_now, none)
    (ap (λ (cs : List Cell). cells_found d.layout d.first d.end.order d.end.column cs)
    (sym (append-nil d.end.cells)))

end-found : (d : DumpView) (n : ℕ) (lines : List (List ℕ)) → IsEnd lines
    → lines_found d n lines ≡ dump_found d
end-found d n [] is = refl
end-found d n ([] ∷ []) is = empty-found d n
end-found d n ((x ∷ xs) ∷ lines) is = absurd is
end-found d n ([] ∷ line ∷ lines) is = absurd is

-- the line that says where a dump ends
end_line-found : (d : DumpView) (n : ℕ) (line : List ℕ) (address : ℕ) → IsEndLine d line address
    → step_found d n line ≡ dump_found (ended d address)
unfolding step_found
end_line-found d n line address is = rw (is.no_remark, is.not_empty, is.no_star, is.is_end) refl

end_line-after : (d : DumpView) (n : ℕ) (line : List ℕ) (address : ℕ) → IsEndLine d line address
    → dump_after d n line ≡ closed (ended d address)
unfolding dump_after
end_line-after d n line address is = rw (is.no_remark, is.not_empty, is.no_star, is.is_end) refl

ended-is : (d : DumpView) (address : ℕ) → lacks_rows d.end ≡ false
    → ended d address ≡ record d { end = record d.end { cells = bytes_before d.end address } }
unfolding ended cut
ended-is d address none =
    ap (λ (e : EndView). record d { end = cut e address }) (filled-none d.end address none)
    ∙ (rw (or_none d.end.unclear d.end.repeats none).0 refl)

ended-found : (d : DumpView) (address : ℕ) → is_held d.held ≡ false → lacks_rows d.end ≡ false
    → (length (bytes_before d.end address) == 0) ≡ false
    → dump_found (ended d address)
    ≡ cells_found d.layout d.first d.end.order d.end.column (bytes_before d.end address)
ended-found d address alone none some =
    let v : DumpView = record d { end = record d.end { cells = bytes_before d.end address } } in
    ap dump_found (ended-is d address none) ∙ open-found v alone (ap not some) none
    ∙ ap (λ (cs : List Cell). cells_found d.layout d.first d.end.order d.end.column cs)
    (append-nil (bytes_before d.end address))

found_in_rows : (d : DumpView) (n : ℕ) (rows : List RowView) (end : Option ℕ)
    (lines : List (List ℕ)) → is_held d.held ≡ false → is_open d ≡ true → lacks_rows d.end ≡ false
    → AreRows d rows end lines
    → lines_found d n lines ≡ cells_found d.layout d.first d.end.order (rows_column d.end.column
    rows) (cells_to end (rows_next d.end.next rows) (d.end.cells ++ rows_cells rows))
unfolding extended
found_in_rows d n [] None lines alone open_now none are = end-found d n lines are
    ∙ open-found d alone open_now none
found_in_rows d n [] (Some address) [] alone open_now none are = absurd are
found_in_rows d n [] (Some address) (line ∷ lines) alone open_now none are =
    let e : DumpView = ended d address in
    ap (λ (t : List Finding). t ++ lines_found (dump_after d n line) (n + 1) lines)
    (end_line-found d n line address are.0)
    ∙ ap (λ (v : DumpView). dump_found e ++ lines_found v (n + 1) lines)
    (end_line-after d n line address are.0)
    ∙ ap (λ (t : List Finding). dump_found e ++ t)
    (end-found (closed e) (n + 1) lines are.1 ∙ closed-found e)
    ∙ append-nil (dump_found e) ∙ ended-found d address alone none are.0.has_cells
    ∙ ap (λ (cs : List Cell). cells_found d.layout d.first d.end.order d.end.column
    (take (length cs - (d.end.next - address)) cs)) (sym (append-nil d.end.cells))
found_in_rows d n (r ∷ rows) end [] alone open_now none are = absurd are
found_in_rows d n (r ∷ rows) end (line ∷ lines) alone open_now none are =
    let v : DumpView = grown d r in
    let same : added d r ≡ v = added-is d r none in
    let are_v = subst (λ (w : DumpView). AreRows w rows end lines) same are.1 in
    ap (λ (t : List Finding). t ++ lines_found (dump_after d n line) (n + 1) lines)
    (step_found-row d n line r alone are.0)
    ∙ ap (λ (w : DumpView). lines_found w (n + 1) lines)
    (dump_after-row d n line r alone are.0 ∙ same)
    ∙ found_in_rows v (n + 1) rows end lines alone (grown-open d r open_now) none are_v
    ∙ ap (λ (cs : List Cell). cells_found d.layout d.first d.end.order (rows_column
    (column_with d.end.column r) rows) (cells_to end (rows_next d.end.next (r ∷ rows)) cs))
    (append_assoc d.end.cells r.cells (rows_cells rows))

first_found : (l : Layout) (line : List ℕ) (r : RowView) → IsRow line r
    → step_found (no_dump l) 1 line ≡ []
unfolding step_found is_star end_at goes_on judged
first_found l line r is = rw (is.no_remark, is.not_empty, is.row) refl

first_dump : (l : Layout) (line : List ℕ) (r : RowView) → IsRow line r
    → dump_after (no_dump l) 1 line ≡ begun (no_dump l) 1 r
unfolding dump_after is_star end_at goes_on closed emptied judged released
first_dump l line r is = rw (is.no_remark, is.not_empty, is.row) refl

found_in_dump : (l : Layout) (rows : List RowView) (end : Option ℕ) (lines : List (List ℕ))
    → IsDumpOf l rows end lines
    → lines_found (no_dump l) 1 lines ≡ dump_findings l 1 (rows_lack rows) (rows_bytes rows end)
unfolding begun end_of
found_in_dump l (r ∷ rows) end (line ∷ lines) is =
    let d : DumpView = begun (no_dump l) 1 r in
    ap (λ (t : List Finding). t ++ lines_found (dump_after (no_dump l) 1 line) 2 lines)
    (first_found l line r is.0)
    ∙ ap (λ (v : DumpView). lines_found v 2 lines) (first_dump l line r is.0)
    ∙ found_in_rows d 2 rows end lines refl (ap not is.0.has_cells) refl is.1
found_in_dump l [] end lines is = absurd is
found_in_dump l (r ∷ rows) end [] is = absurd is

pub forms_reported : (l : Layout) (input : Option (List ℕ)) (old new : Option (List Finding))
    → IsDecoded l input old new → ReportsForms l input old new
forms_reported l None old new is = tt
forms_reported l (Some bytes) old new is = λ rows end dump. subst (λ (t : List Finding).
    Reported old new t) (found_in_dump l rows end (slice_split is_line_feed bytes) dump) is
