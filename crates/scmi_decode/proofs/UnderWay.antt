-- What was reported while an input is read line by line.
use Rattle.std.proofs.Common.{◌≡◌, ℕ, ◌+◌, ◌<◌, ◌≤◌, Bool, true, false, List, [], ◌∷◌, length, Option, None, Some, IfSome, ◌∙◌, sym, ap, subst, arith, length-drop}
use Rattle.std.specs.Prelude.{◌||◌}
use Rattle.std.specs.List.{slice_split, position_or_len}
use Rattle.std.proofs.lemmas.Bool.Decides.{nat_tests}
use Rattle.std.proofs.lemmas.List as list
use Rattle.std.proofs.lemmas.List.Splits.{slice_split_first, slice_split_none}
use Rattle.std.proofs.lemmas.List.Sums.{fails_before_first}
use Rattle.scmi_io.specs.Lines.{is_line_feed, first_line, after_line, has_line_feed}
use Rattle.scmi_decode.proofs.Reported.{reported_trans}
use Rattle.scmi_decode.specs.OpenDump.{DumpView, closed, dump_found}
use Rattle.scmi_decode.specs.Reported.{Reported}
use Rattle.scmi_decode.specs.declared.finding.Finding.{Finding}
use Rattle.scmi_decode.specs.declared.layout.Layout.{Layout}
use Rattle.scmi_decode.specs.Decoded.{IsDecoded, findings_of, dump_after, has_area, lines_found, step_found}
use Rattle.scmi_decode.specs.Finding.{any_area}
use Rattle.scmi_decode.proofs.FoundSoFar.{found_from}

-- what is left to read of an input, with the dump that is open there: what is still to be written,
-- after what was, is the text of the whole
pub record IsOnItsWay (l : Layout) (input rest : List ℕ) (d : DumpView) (n : ℕ)
    (old now : Option (List Finding)) : Type 0 where
  pub taken : (end : Option (List Finding)) → Reported now end
      (lines_found d n (slice_split is_line_feed rest)) → Reported old end (findings_of l input)
  pub found : (d.found || any_area (lines_found d n (slice_split is_line_feed rest)))
      ≡ has_area l input
  pub size : n + length rest ≤ length input + 1

-- the same, if it may be unknown what the reader gives
abbrev pub IsUnderWay : (l : Layout) (whole left : Option (List ℕ)) (d : DumpView) (n : ℕ)
    (old now : Option (List Finding)) → Type 0
IsUnderWay l None left d n old now = Unit {0}
IsUnderWay l (Some input) None d n old now = ⊥
IsUnderWay l (Some input) (Some rest) d n old now = IsOnItsWay l input rest d n old now

has_feed : (rest : List ℕ) → true ≡ has_line_feed rest
    → position_or_len is_line_feed rest < length rest
has_feed rest e = grind (arith, nat_tests)

-- a line that a line feed ended
on_more : (l : Layout) (input rest : List ℕ) (d : DumpView) (n : ℕ) (old now now' : Option
    (List Finding)) → IsOnItsWay l input rest d n old now → true ≡ has_line_feed rest
    → Reported now now' (step_found d n (first_line rest))
    → IsOnItsWay l input (after_line rest) (dump_after d n (first_line rest)) (n + 1) old now'
on_more l input rest d n old now now' way feed wrote =
    let split : slice_split is_line_feed rest ≡ first_line rest ∷ slice_split is_line_feed
    (after_line rest) = slice_split_first is_line_feed rest 0 (has_feed rest feed) in
    record {
      taken = λ end h. way.taken end
          (subst (λ (ls : List (List ℕ)). Reported now end (lines_found d n ls)) (sym split)
          (reported_trans now now' end (step_found d n (first_line rest)) (lines_found (dump_after d
          n (first_line rest)) (n + 1) (slice_split is_line_feed (after_line rest))) wrote h));
      found = found_from d n (first_line rest) (slice_split is_line_feed (after_line rest))
          ∙ ap (λ (ls : List (List ℕ)). d.found || any_area (lines_found d n ls)) (sym split)
          ∙ way.found;
      size = omega (
        arith,
        way.size,
        has_feed rest feed,
        length-drop (position_or_len is_line_feed rest + 1) rest,
      );
    }

on_more_as : (l : Layout) (input rest rest' line : List ℕ) (d d' : DumpView)
    (n : ℕ) (old now now' : Option (List Finding)) → IsOnItsWay l input rest d n old now
    → line ≡ first_line rest → rest' ≡ after_line rest
    → true ≡ has_line_feed rest → Reported now now' (step_found d n line) → d' ≡ dump_after d n line
    → IsOnItsWay l input rest' d' (n + 1) old now'
on_more_as l input rest rest' line d d' n old now now' way first behind feed wrote after =
    let wrote_first : Reported now now' (step_found d n (first_line rest)) =
    subst (λ (l : List ℕ). Reported now now' (step_found d n l)) first wrote in
    let same : d' ≡ dump_after d n (first_line rest) = after ∙ ap (dump_after d n) first in
    subst (λ (v : DumpView). IsOnItsWay l input rest' v (n + 1) old now') (sym same)
    (subst (λ (r : List ℕ). IsOnItsWay l input r (dump_after d n (first_line rest))
    (n + 1) old now') (sym behind) (on_more l input rest d n old now now' way feed wrote_first))

pub one_more : (l : Layout) (whole left left' : Option (List ℕ))
    (line : List ℕ) (d d' : DumpView) (n : ℕ) (ended : Bool) (old now now' : Option (List Finding))
    → IsUnderWay l whole left d n old now
    → IfSome left (λ input. line ≡ first_line input)
    → IfSome left (λ input. left' ≡ Some (after_line input))
    → IfSome left (λ input. ended ≡ has_line_feed input) → ended ≡ true
    → Reported now now' (step_found d n line) → d' ≡ dump_after d n line
    → IsUnderWay l whole left' d' (n + 1) old now'
one_more l None left left' line d d' n ended old now now' way first behind feed is_ended
    wrote after = tt
one_more l (Some input) None left' line d d' n ended old now now' way first behind feed is_ended
    wrote after = absurd way
one_more l (Some input) (Some rest) None line d d' n ended old now now' way first behind feed
    is_ended wrote after = absurd cc
one_more l (Some input) (Some rest)
    (Some rest') line d d' n ended old now now' way first behind feed is_ended wrote after =
    let is_behind : rest' ≡ after_line rest = cc in
    on_more_as l input rest rest' line d d' n old now now' way first is_behind
    (sym is_ended ∙ feed) wrote after

no_feed : (rest : List ℕ) → false ≡ has_line_feed rest
    → length rest ≤ position_or_len is_line_feed rest
no_feed rest e = grind (arith, nat_tests)

-- what is written, and whether an area was found
abbrev pub Done : (l : Layout) (whole : Option (List ℕ)) (old end : Option (List Finding))
    (found : Bool) → Type 0
Done l whole old end found = IsDecoded l whole old end
    × IfSome whole (λ input. found ≡ has_area l input)

-- the last line, which no line feed ended
at_last : (l : Layout) (input rest line : List ℕ) (d d' : DumpView)
    (n : ℕ) (old now now' end : Option (List Finding)) → IsOnItsWay l input rest d n old now
    → line ≡ first_line rest → false ≡ has_line_feed rest
    → Reported now now' (step_found d n line)
    → d' ≡ dump_after d n line → Reported now' end (dump_found d')
    → Reported old end (findings_of l input) × ((closed d').found ≡ has_area l input)
unfolding closed
at_last l input rest line d d' n old now now' end way first none wrote after last =
    let past = no_feed rest none in
    let split : slice_split is_line_feed rest ≡ rest ∷ [] = slice_split_none is_line_feed rest
    (λ k x inside. fails_before_first is_line_feed rest k x (omega (arith, past, inside))) in
    let all : line ≡ rest = first ∙ list.take_all (position_or_len is_line_feed rest) rest past in
    let wrote_rest : Reported now now' (step_found d n rest) =
    subst (λ (l : List ℕ). Reported now now' (step_found d n l)) all wrote in
    let same : d' ≡ dump_after d n rest = after ∙ ap (dump_after d n) all in
    let last_rest : Reported now' end (dump_found (dump_after d n rest)) =
    subst (λ (v : DumpView). Reported now' end (dump_found v)) same last in
    let both : Reported now end (lines_found d n (rest ∷ [])) = reported_trans now now' end
    (step_found d n rest) (dump_found (dump_after d n rest)) wrote_rest last_rest in
    let text : Reported now end (lines_found d n (slice_split is_line_feed rest)) =
    subst (λ (ls : List (List ℕ)). Reported now end (lines_found d n ls)) (sym split) both in
    let found : ((dump_after d n rest).found || any_area (dump_found (dump_after d n rest)))
    ≡ has_area l input =
    found_from d n rest [] ∙ ap (λ (ls : List (List ℕ)). d.found || any_area (lines_found d n ls))
    (sym split) ∙ way.found in
    (way.taken end text, ap (λ (v : DumpView). (closed v).found) same ∙ found)

pub at_end : (l : Layout) (whole left : Option (List ℕ)) (line : List ℕ)
    (d d' d'' : DumpView) (n : ℕ) (ended : Bool) (old now now' end : Option (List Finding))
    → IsUnderWay l whole left d n old now
    → IfSome left (λ input. line ≡ first_line input)
    → IfSome left (λ input. ended ≡ has_line_feed input) → ended ≡ false
    → Reported now now' (step_found d n line) → d' ≡ dump_after d n line
    → Reported now' end (dump_found d') → d'' ≡ closed d' → Done l whole old end d''.found
at_end l None left line d d' d'' n ended old now now' end way first feed is_last wrote after last
    done = (tt, tt)
at_end l (Some input) None line d d' d'' n ended old now now' end way first feed is_last wrote after
    last done = absurd way
at_end l (Some input) (Some rest) line d d' d'' n ended old now now' end way first feed is_last
    wrote after last done =
    let parts = at_last l input rest line d d' n old now now' end way first
    (sym is_last ∙ feed) wrote after last in
    (parts.0, ap (λ (v : DumpView). v.found) done ∙ parts.1)
