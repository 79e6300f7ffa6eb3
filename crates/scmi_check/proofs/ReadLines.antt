-- The lines of a text that is read a line at a time.
use Rattle.std.proofs.Common.{◌≡◌, ◌==◌, ℕ, ◌+◌, ◌<◌, ◌≤◌, ◌∙◌, Bool, true, false, if◌then◌else◌, List, [], ◌∷◌, ◌++◌, length, drop, refl, sym, ap, arith}
use Rattle.std.specs.List.{position_or_len}
use Rattle.std.proofs.lemmas.Bool.Decides.{nat_tests}
use Rattle.std.proofs.lemmas.List as list
use Rattle.scmi_board.specs.Lines.{Line, is_significant, last_behind, lines_behind, lines_of, number_behind}
use Rattle.scmi_board.proofs.LineLemmas.{counted, cut_at, none_behind, skipped}
use Rattle.scmi_io.specs.Lines.{after_line, first_line, has_line_feed, is_line_feed}
use Rattle.scmi_check.specs.UnderWay.{if_counts}
use Rattle.scmi_check.proofs.Growing.{append-none}

abbrev place : List ℕ → ℕ
place text = position_or_len is_line_feed text

drop-one : (k : ℕ) (text : List ℕ) → drop (k + 1) text ≡ drop 1 (drop k text)
drop-one k text = sym (list.drop-drop 1 k text)

some-bytes : (text : List ℕ) → 0 < length text → (length text == 0) ≡ false
some-bytes text some = grind (arith, nat_tests)

-- a text is its first line and those after it
pub cut-line : (text : List ℕ) → 0 < length text
    → lines_of text ≡ first_line text ∷ lines_of (after_line text)
cut-line text some = cut_at text (first_line text) (drop (place text) text) (after_line text)
    (place text) (some-bytes text some) refl refl refl (drop-one (place text) text)

-- a line, and those behind it
numbered : (n : ℕ) (line : List ℕ) (lines : List (List ℕ))
    → lines_behind n (line ∷ lines) ≡ if_counts
    (record { number = number_behind n; text = line }) ++ lines_behind (number_behind n) lines
numbered n line lines = by (is_significant line) refl where
  by : (b : Bool) → is_significant line ≡ b
      → lines_behind n (line ∷ lines) ≡ (if b then record { number = number_behind n; text = line }
      ∷ [] else []) ++ lines_behind (number_behind n) lines
  by true is = counted n (number_behind n) (line ∷ lines) lines line refl refl is
  by false is = sym (skipped n (number_behind n) (line ∷ lines) lines line refl refl is)

-- a text with a line feed has a line
pub with-feed : (text : List ℕ) → has_line_feed text ≡ true → 0 < length text
with-feed text feed = grind (arith, nat_tests)

-- the number of the last line, behind one more
pub last-more : (n : ℕ) (lines : List (List ℕ)) (line : List ℕ)
    → last_behind n (lines ++ line ∷ []) ≡ number_behind (last_behind n lines)
unfolding last_behind
last-more n [] line = refl
last-more n (first ∷ lines) line = last-more (number_behind n) lines line

-- the line that was read, and those that are left
pub lines-on : (n : ℕ) (rest : List ℕ) → has_line_feed rest ≡ true
    → lines_behind n (lines_of rest) ≡ if_counts
    (record { number = number_behind n; text = first_line rest }) ++ lines_behind
    (number_behind n) (lines_of (after_line rest))
lines-on n rest feed =
    ap (lines_behind n) (cut-line rest (with-feed rest feed))
    ∙ numbered n (first_line rest) (lines_of (after_line rest))

nothing-after : (text : List ℕ) → has_line_feed text ≡ false → after_line text ≡ []
nothing-after text none = let past : length text ≤ place text = grind (arith, nat_tests) in
    list.drop_all (place text + 1) text (omega (arith, past))

-- the last line
pub lines-last : (n : ℕ) (rest : List ℕ) → has_line_feed rest ≡ false
    → lines_behind n (lines_of rest) ≡ if_counts
    (record { number = number_behind n; text = first_line rest })
lines-last n [] none = none_behind n [] refl
lines-last n (byte ∷ rest) none =
    ap (lines_behind n) (cut-line (byte ∷ rest) (omega arith))
    ∙ numbered n (first_line (byte ∷ rest)) (lines_of (after_line (byte ∷ rest)))
    ∙ ap (λ (ls : List Line). if_counts (record
    { number = number_behind n; text = first_line (byte ∷ rest) }) ++ ls)
    (none_behind (number_behind n) (after_line (byte ∷ rest))
    (nothing-after (byte ∷ rest) none))
    ∙ append-none (if_counts (record { number = number_behind n; text = first_line (byte ∷ rest) }))
