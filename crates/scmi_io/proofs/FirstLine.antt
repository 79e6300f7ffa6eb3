-- A first line that is read byte by byte.
use Rattle.std.proofs.Common.{◌≡◌, ℕ, ◌+◌, ◌<◌, ◌≤◌, zero, suc, not, true, false, List, [], ◌∷◌, ◌++◌, length, get_or, take, drop, Option, None, Some, IfSome, sym, ◌∙◌, ap, refl, arith, length-drop}
use Rattle.std.specs.List.{position_or_len, before_first, after_first}
use Rattle.std.specs.Io.KnownBytes.{Consumes, IsAtEnd}
use Rattle.std.proofs.lemmas.Grind.{common_steps}
use Rattle.std.proofs.lemmas.List as list
use Rattle.std.proofs.lemmas.List.Sums.{fails_before_first, passes_at_first, prefix_len-le-length}
use Rattle.scmi_io.specs.Lines.{is_line_feed}
use Rattle.scmi_io.specs.declared.input.TheConstants.{KEPT_BYTES}

-- the first n bytes were read, and none of them ends the line
pub record IsSeen (input : List ℕ) (n : ℕ) (rest : Option (List ℕ)) (kept : List ℕ) : Type 0 where
  pub left : rest ≡ Some (drop n input)
  pub inside : n ≤ length input
  pub no_end : n ≤ position_or_len is_line_feed input
  pub first : kept ≡ take KEPT_BYTES (take n input)

pub record IsNext (input zs : List ℕ) (n x : ℕ) : Type 0 where
  pub more : n < length input
  pub byte : get_or input n 0 ≡ x
  pub rest : drop (n + 1) input ≡ zs
  pub seen : take (n + 1) input ≡ take n input ++ x ∷ []

pub is_next : (input zs : List ℕ) (n x : ℕ) → n ≤ length input → drop n input ≡ x ∷ zs
    → IsNext input zs n x
is_next input zs n x inside h =
    let more : n < length input = grind (arith, common_steps, ap length h, length-drop n input) in
    let cut = list.drop_more input n 0 more in
    let taken = list.take_more input n 0 more in
    record { more = more; byte = cc; rest = cc; seen = cc }

pub still_none : (input : List ℕ) (n x : ℕ) → n < length input → get_or input n 0 ≡ x → is_line_feed
    x ≡ false → n ≤ position_or_len is_line_feed input → n + 1 ≤ position_or_len is_line_feed input
still_none input n x more at other so_far =
    let first = passes_at_first is_line_feed input 0 in grind (arith, common_steps, first)

pub left_of : (input ys : List ℕ) (n : ℕ) (rest rest' : Option (List ℕ))
    → rest ≡ Some (drop n input) → Consumes rest rest' ys
    → (zs : List ℕ) × (rest' ≡ Some zs) × (drop n input ≡ ys ++ zs)
left_of input ys n None rest' at took = absurd cc
left_of input ys n (Some xs) None at took = absurd took
left_of input ys n (Some xs) (Some zs) at took = let same : xs ≡ drop n input = cc in (zs, refl, cc)

take_again : (k : ℕ) (a b : List ℕ) → take k (take k a ++ b) ≡ take k (a ++ b)
take_again zero a b = refl
take_again (suc k) [] b = refl
take_again (suc k) (x ∷ a) b = ap (λ (xs : List ℕ). x ∷ xs) (take_again k a b)

pub seen_more : (input : List ℕ) (n x : ℕ) (rest rest' : Option (List ℕ)) (kept : List ℕ)
    → IsSeen input n rest kept → Consumes rest rest' (x ∷ []) → is_line_feed x ≡ false
    → IsSeen input (n + 1) rest' (take KEPT_BYTES (kept ++ x ∷ []))
seen_more input n x rest rest' kept seen took other =
    let (zs, is, cut) = left_of input (x ∷ []) n rest rest' seen.left took in
    let next = is_next input zs n x seen.inside cut in
    let again = take_again KEPT_BYTES (take n input) (x ∷ []) in record {
      left = cc;
      inside = omega arith;
      no_end = still_none input n x next.more next.byte other seen.no_end;
      first = rw seen.first (again ∙ ap (λ (xs : List ℕ). take KEPT_BYTES xs) (sym next.seen));
    }

-- what the reader has left, and what was kept of the line, once a line feed was read
pub record IsDone (input : List ℕ) (rest : Option (List ℕ)) (kept : List ℕ) : Type 0 where
  pub line : kept ≡ take KEPT_BYTES (before_first is_line_feed input)
  pub left : rest ≡ Some (after_first is_line_feed input)

pub done_at_feed : (input : List ℕ) (n x : ℕ) (rest rest' : Option (List ℕ)) (kept : List ℕ)
    → IsSeen input n rest kept → Consumes rest rest' (x ∷ []) → is_line_feed x ≡ true
    → IsDone input rest' kept
done_at_feed input n x rest rest' kept seen took feed =
    let (zs, is, cut) = left_of input (x ∷ []) n rest rest' seen.left took in
    let next = is_next input zs n x seen.inside cut in
    let fails = fails_before_first is_line_feed input n 0 in
    let here : position_or_len is_line_feed input ≡ n = grind (arith, common_steps) in
    let left : rest' ≡ Some (drop (n + 1) input) = cc in
    let line = seen.first in
    record { line = simp here line; left = simp here left }

pub done_at_end : (input : List ℕ) (n : ℕ) (rest rest' : Option (List ℕ)) (kept : List ℕ)
    → IsSeen input n rest kept → Consumes rest rest' [] → IsAtEnd rest' → IsDone input rest' kept
done_at_end input n rest rest' kept seen took end =
    let (zs, is, cut) = left_of input [] n rest rest' seen.left took in
    let none : zs ≡ [] = rw is at end in
    let gone : length (drop n input) ≡ 0 = ap length (cut ∙ none) in
    let all : n ≡ length input = omega (arith, length-drop n input, seen.inside) in
    let here : position_or_len is_line_feed input ≡ n =
    omega (arith, prefix_len-le-length (λ x. not (is_line_feed x)) input, seen.no_end) in
    let past : drop (n + 1) input ≡ [] = list.drop_all (n + 1) input (omega arith) in
    let left : rest' ≡ Some (drop (n + 1) input) = cc in
    let line = seen.first in
    record { line = simp here line; left = simp here left }

-- the same where it may be unknown what the reader gives

pub if_more : (known : Option (List ℕ)) (n x : ℕ) (rest rest' : Option (List ℕ))
    (kept kept' : List ℕ) → IfSome known (λ input. IsSeen input n rest kept)
    → Consumes rest rest' (x ∷ []) → is_line_feed x ≡ false → kept'
    ≡ take KEPT_BYTES (kept ++ x ∷ []) → IfSome known (λ input. IsSeen input (n + 1) rest' kept')
if_more None n x rest rest' kept kept' seen took other is = tt
if_more (Some input) n x rest rest' kept kept' seen took other is =
    rw is (seen_more input n x rest rest' kept seen took other)

abbrev pub Done : Option (List ℕ) → Option (List ℕ) → List ℕ → Type 0
Done known rest kept =
    IfSome known (λ input. kept ≡ take KEPT_BYTES (before_first is_line_feed input))
    × IfSome known (λ input. rest ≡ Some (after_first is_line_feed input))

pub if_feed : (known : Option (List ℕ)) (n x : ℕ) (rest rest' : Option (List ℕ)) (kept : List ℕ)
    → IfSome known (λ input. IsSeen input n rest kept) → Consumes rest rest' (x ∷ [])
    → is_line_feed x ≡ true → Done known rest' kept
if_feed None n x rest rest' kept seen took feed = (tt, tt)
if_feed (Some input) n x rest rest' kept seen took feed =
    let done = done_at_feed input n x rest rest' kept seen took feed in
    (done.line, done.left)

pub if_end : (known : Option (List ℕ)) (n : ℕ) (rest rest' : Option (List ℕ)) (kept : List ℕ)
    → IfSome known (λ input. IsSeen input n rest kept) → Consumes rest rest' [] × IsAtEnd rest'
    → Done known rest' kept
if_end None n rest rest' kept seen took = (tt, tt)
if_end (Some input) n rest rest' kept seen took =
    let done = done_at_end input n rest rest' kept seen took.0 took.1 in
    (done.line, done.left)
