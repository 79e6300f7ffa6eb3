-- Lines of a script, in numbers, one after another.
use Rattle.std.proofs.Common.{◌≡◌, ℕ, ◌<◌, Bool, true, false, List, [], ◌∷◌, ◌++◌, length, Bor, map, Option, Some, None, Result, Ok, Err, refl, sym, ap, ◌∙◌, append_assoc, subst}
use Rattle.std.specs.List.{join_with_byte, slice_split}
use Rattle.std.proofs.lemmas.List.{map-append}
use Rattle.std.proofs.lemmas.List.Splits.{join_with_byte-slice_split}
use Rattle.scmi_board.specs.BoardLines.{Described, described_left}
use Rattle.scmi_board.specs.Lines.{Line, LinesView}
use Rattle.scmi_io.specs.Lines.{is_line_feed}
use Rattle.scmi_plan.specs.Board.{Board}
use Rattle.scmi_text.specs.StepText.{hardware_step_of_line}
use Rattle.scmi_text.specs.declared.step.Step.{Step}
use Rattle.scmi_live.specs.Meant.{step_by_names}
use Rattle.scmi_live.specs.Pieces.{with_byte}
use Rattle.scmi_live.proofs.Joined.{first_join, join_more, length_more}
use Rattle.scmi_live.specs.Numbered.{AddsNumbered, AllStay, AreInNumbers, HasNoNames, HasNoNamesBy, IsInNumbers, IsInNumbersBy, IsInNumbersOf, IsLineBy, IsLineInNumbers, StaysBy}

-- what some lines become, and whether they are the first of all
pub record AreSoFar (board : Board) (agents : ℕ) (texts : List (List ℕ)) (is_first : Bool)
    (made : List ℕ) : Type 0 where
  pub lines : List (List ℕ)
  pub each : AreInNumbers board agents texts lines
  pub joined : made ≡ join_with_byte 10 lines
  pub first : is_first ≡ true → lines ≡ []
  pub more : is_first ≡ false → 0 < length lines

and_line : (board : Board) (agents : ℕ) (texts lines : List (List ℕ)) (text line : List ℕ)
    → AreInNumbers board agents texts lines → IsLineInNumbers board agents text line
    → AreInNumbers board agents (texts ++ text ∷ []) (lines ++ line ∷ [])
and_line board agents [] [] text line each one = (one, tt)
and_line board agents [] (l ∷ lines) text line each one = absurd each
and_line board agents (t ∷ texts) [] text line each one = absurd each
and_line board agents (t ∷ texts) (l ∷ lines) text line each one =
    (each.0, and_line board agents texts lines text line each.1 one)

on_first : (board : Board) (agents : ℕ) (texts : List (List ℕ)) (text made new : List ℕ)
    → AreSoFar board agents texts true made → AddsNumbered board agents text made new
    → AreSoFar board agents (texts ++ text ∷ []) false new
on_first board agents texts text made new so_far adds = record {
  lines = so_far.lines ++ adds.line ∷ [];
  each = and_line board agents texts so_far.lines text adds.line so_far.each adds.becomes;
  joined = adds.added ∙ ap (λ (m : List ℕ). m ++ adds.line) so_far.joined
      ∙ sym (first_join 10 so_far.lines adds.line (so_far.first refl));
  first = λ is. absurd cc;
  more = λ is. length_more so_far.lines adds.line;
}

on_next : (board : Board) (agents : ℕ) (texts : List (List ℕ)) (text made ended new : List ℕ)
    → AreSoFar board agents texts false made → ended ≡ made ++ 10 ∷ [] → AddsNumbered board agents
    text ended new → AreSoFar board agents (texts ++ text ∷ []) false new
on_next board agents texts text made ended new so_far is_ended adds = record {
  lines = so_far.lines ++ adds.line ∷ [];
  each = and_line board agents texts so_far.lines text adds.line so_far.each adds.becomes;
  joined = adds.added ∙ ap (λ (m : List ℕ). m ++ adds.line) is_ended ∙ append_assoc made
      (10 ∷ []) adds.line ∙ ap (λ (m : List ℕ). m ++ 10 ∷ adds.line) so_far.joined
      ∙ sym (join_more 10 so_far.lines adds.line (so_far.more refl));
  first = λ is. absurd cc;
  more = λ is. length_more so_far.lines adds.line;
}

-- one line more
on_line : (board : Board) (agents : ℕ) (texts : List (List ℕ))
    (is_first : Bool) (text made ended new : List ℕ) → AreSoFar board agents texts is_first made
    → ended ≡ with_byte 10 is_first made → AddsNumbered board agents text ended new
    → AreSoFar board agents (texts ++ text ∷ []) false new
on_line board agents texts true text made ended new so_far is_ended adds =
    on_first board agents texts text made new so_far
    (subst (λ (m : List ℕ). AddsNumbered board agents text m new) is_ended adds)
on_line board agents texts false text made ended new so_far is_ended adds =
    on_next board agents texts text made ended new so_far is_ended adds

-- the same of lines that are borrowed
pub on_yielded : (board : Board) (agents : ℕ)
    (texts : List (Bor (List ℕ))) (text : Bor (List ℕ)) (is_first : Bool) (made ended new : List ℕ)
    → AreSoFar board agents (map (λ x. x.now) texts) is_first made
    → ended ≡ with_byte 10 is_first made → AddsNumbered board agents text.now ended new
    → AreSoFar board agents (map (λ x. x.now) (texts ++ text ∷ [])) false new
on_yielded board agents texts text is_first made ended new so_far is_ended adds =
    subst (λ (all : List (List ℕ)). AreSoFar board agents all false new)
    (sym (map-append (λ (x : Bor (List ℕ)). x.now) texts (text ∷ []))) (on_line board agents
    (map (λ x. x.now) texts) is_first text.now made ended new so_far is_ended adds)

-- all lines
pub at_end : (board : Board) (agents : ℕ) (texts : List (List ℕ))
    (is_first : Bool) (text made : List ℕ) → texts ≡ slice_split is_line_feed text
    → AreSoFar board agents texts is_first made → IsInNumbersOf board agents text made
at_end board agents texts is_first text made all so_far = record {
  lines = so_far.lines;
  each = subst (λ (t : List (List ℕ)). AreInNumbers board agents t so_far.lines) all so_far.each;
  joined = so_far.joined;
}

line_stays : (agents : ℕ) (numbers names : Option Step) (text line : List ℕ) → StaysBy numbers names
    → IsLineBy numbers names agents text line → line ≡ text
line_stays agents (Some step) names text line stays is = is
line_stays agents None None text line stays is = is
line_stays agents None (Some step) text line stays is = absurd stays

lines_stay : (board : Board) (agents : ℕ) (texts lines : List (List ℕ)) → AllStay board agents texts
    → AreInNumbers board agents texts lines → lines ≡ texts
lines_stay board agents [] [] stay each = refl
lines_stay board agents [] (line ∷ lines) stay each = absurd each
lines_stay board agents (text ∷ texts) [] stay each = absurd each
lines_stay board agents (text ∷ texts) (line ∷ lines) stay each =
    let one : line ≡ text = line_stays agents (hardware_step_of_line agents text)
    (step_by_names board agents text) text line stay.0 each.0 in
    ap (λ (l : List ℕ). l ∷ lines) one
    ∙ ap (λ (ls : List (List ℕ)). text ∷ ls) (lines_stay board agents texts lines stay.1 each.1)

stays_by : (found : Result (Described × List Line) ℕ) (text made : List ℕ)
    → IsInNumbersBy found text made → HasNoNamesBy found text → made ≡ text
stays_by (Err line) text made numbers none = numbers
stays_by (Ok found) text made numbers none =
    numbers.joined ∙ ap (join_with_byte 10) (lines_stay found.0.0
    (length found.0.0.agents) (slice_split is_line_feed text) numbers.lines none numbers.each)
    ∙ join_with_byte-slice_split 10 text

-- a script without names stays as it is
pub no_names : (text made : List ℕ) → IsInNumbers text made → HasNoNames text → made ≡ text
no_names text made numbers none =
    stays_by (described_left (record { rest = text; number = 1 })) text made numbers none

-- the lines of a text that no one has read yet
pub lines_same : (lines : LinesView) (text : List ℕ) → lines.rest ≡ text → lines.number ≡ 1
    → lines ≡ record { rest = text; number = 1 }
lines_same lines text rest first = ap (λ (r : List ℕ). record { rest = r; number = lines.number })
    rest ∙ ap (λ (n : ℕ). record { rest = text; number = n }) first

-- a script that begins with this board
pub of_board : (text made : List ℕ) (found : Described × List Line) (agents : ℕ)
    → described_left (record { rest = text; number = 1 }) ≡ Ok found → agents
    ≡ length found.0.0.agents → IsInNumbersOf found.0.0 agents text made → IsInNumbers text made
of_board text made found agents there count numbers =
    subst (λ (r : Result (Described × List Line) ℕ). IsInNumbersBy r text made) (sym there)
    (subst (λ n. IsInNumbersOf found.0.0 n text made) count numbers)
