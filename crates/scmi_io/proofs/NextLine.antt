-- A line that is read piece by piece.
use Rattle.std.proofs.Common.{◌≡◌, ℕ, ◌+◌, ◌<◌, ◌≤◌, not, Bool, true, false, List, [], ◌∷◌, ◌++◌, length, get_or, take, drop, Option, None, Some, IfNone, IfSome, sym, ◌∙◌, ap, arith}
use Rattle.std.specs.Prelude.{nat_lt, ◌==◌}
use Rattle.std.specs.List.{position_or_len}
use Rattle.std.specs.Option.{IsSomeAnd}
use Rattle.std.specs.Io.KnownBytes.{Keeps, prepend_known}
use Rattle.memchr.specs.Find.{IsFirstByte, is_byte}
use Rattle.std.proofs.Math.Bool.{cond}
use Rattle.std.proofs.lemmas.Bool.{eq-eqb}
use Rattle.std.proofs.lemmas.Bool.Decides.{nat_tests}
use Rattle.std.proofs.lemmas.Grind.{common_steps}
use Rattle.std.proofs.lemmas.List as list
use Rattle.std.proofs.lemmas.List.Sums.{fails_before_first, passes_at_first, position_or_len_is, prefix_len-le-length}
use Rattle.std.proofs.lemmas.List.Folds.{prefix_len-append}
use Rattle.std.proofs.Math.Seq.{take-append-add, drop-append-add}
use Rattle.scmi_io.specs.Lines.{is_line_feed, first_line, after_line, has_line_feed, IsFurther}

-- what a search for a line feed gives is its place

pub found_none : (bytes : List ℕ) (r : Option ℕ) → IsFirstByte (is_byte 10) bytes r
    → IfNone r (position_or_len is_line_feed bytes ≡ length bytes)
found_none bytes None nowhere =
    position_or_len_is is_line_feed bytes (length bytes) 0 (omega arith) (λ k lt. let other =
    nowhere k (omega arith) lt in grind (arith, nat_tests)) (λ lt. absurd (omega arith))
found_none bytes (Some place) found = tt

pub found_some : (bytes : List ℕ) (r : Option ℕ) → IsFirstByte (is_byte 10) bytes r
    → IfSome r (λ place. place ≡ position_or_len is_line_feed bytes)
found_some bytes None nowhere = tt
found_some bytes (Some place) (first, here) =
    let inside = first.high in
    sym (position_or_len_is is_line_feed bytes place 0 (omega arith) (λ k lt. let other =
    first.before k (omega arith) lt in grind (arith, nat_tests)) (λ _. here))

pub found_inside : (bytes : List ℕ) (r : Option ℕ) → IsFirstByte (is_byte 10) bytes r
    → IfSome r (λ place. place < length bytes)
found_inside bytes None nowhere = tt
found_inside bytes (Some place) (first, here) = first.high

-- the line of bytes and what follows them, where a line feed is in the bytes
pub record IsWithin (bytes rest : List ℕ) : Type 0 where
  pub line : first_line (bytes ++ rest) ≡ first_line bytes
  pub after : after_line (bytes ++ rest) ≡ after_line bytes ++ rest
  pub ended : has_line_feed (bytes ++ rest) ≡ true

abbrev place : List ℕ → ℕ
place bytes = position_or_len is_line_feed bytes

inside : (bytes : List ℕ) → has_line_feed bytes ≡ true → place bytes < length bytes
inside bytes has = grind (arith, nat_tests)

past : (bytes : List ℕ) → has_line_feed bytes ≡ false → place bytes ≡ length bytes
past bytes none =
    let most = prefix_len-le-length (λ x. not (is_line_feed x)) bytes in grind (arith, nat_tests)

same_place : (bytes rest : List ℕ) → place bytes < length bytes
    → place (bytes ++ rest) ≡ place bytes
same_place bytes rest at =
    position_or_len_is is_line_feed (bytes ++ rest) (place bytes) 0
    (rw (list.length-append bytes rest) (omega (arith, at)))
    (λ k before. rw (list.get_or_append_left bytes rest 0 k (omega (arith, before, at)))
    (fails_before_first is_line_feed bytes k 0 before))
    (λ _. rw (list.get_or_append_left bytes rest 0 (place bytes) at)
    (passes_at_first is_line_feed bytes 0 at))

pub line_within : (bytes rest : List ℕ) → has_line_feed bytes ≡ true → IsWithin bytes rest
line_within bytes rest has =
    let at = inside bytes has in
    let same = same_place bytes rest at in
    let whole = list.length-append bytes rest in record {
      line = ap (λ n. take n (bytes ++ rest)) same
          ∙ list.take-append-le (place bytes) bytes rest (omega (arith, at));
      after = ap (λ n. drop (n + 1) (bytes ++ rest)) same
          ∙ list.drop-append-le (place bytes + 1) bytes rest (omega (arith, at));
      ended = grind (arith, nat_tests);
    }

-- the same where none is
pub record IsPast (bytes rest : List ℕ) : Type 0 where
  pub line : first_line (bytes ++ rest) ≡ bytes ++ first_line rest
  pub after : after_line (bytes ++ rest) ≡ after_line rest
  pub ended : has_line_feed (bytes ++ rest) ≡ has_line_feed rest

later_place : (bytes rest : List ℕ) → place bytes ≡ length bytes
    → place (bytes ++ rest) ≡ length bytes + place rest
later_place bytes rest none =
    prefix_len-append (λ x. not (is_line_feed x)) bytes rest
    ∙ ap (λ b. cond b (length bytes + place rest) (place bytes))
    (eq-eqb (place bytes) (length bytes) none)

pub line_past : (bytes rest : List ℕ) → has_line_feed bytes ≡ false → IsPast bytes rest
line_past bytes rest none =
    let at = past bytes none in
    let same = later_place bytes rest at in
    let whole = list.length-append bytes rest in record {
      line = ap (λ n. take n (bytes ++ rest)) same ∙ take-append-add bytes rest (place rest);
      after = ap (λ n. drop (n + 1) (bytes ++ rest)) same ∙ ap (λ n. drop n (bytes ++ rest))
          (omega arith) ∙ drop-append-add bytes rest (place rest + 1);
      ended = grind (arith, nat_tests);
    }

-- bytes without a line feed are their line, and nothing follows
pub all_line : (bytes : List ℕ) → has_line_feed bytes ≡ false → first_line bytes ≡ bytes
all_line bytes none =
    list.take_all (place bytes) bytes (let at = past bytes none in omega (arith, at))

pub none_after : (bytes : List ℕ) → has_line_feed bytes ≡ false → after_line bytes ≡ []
none_after bytes none =
    list.drop_all (place bytes + 1) bytes (let at = past bytes none in omega (arith, at))

-- the same of what is left, where it may be unknown

pub if_line : (old rest : Option (List ℕ)) (bytes line line' : List ℕ)
    → Keeps old (prepend_known bytes rest) → has_line_feed bytes ≡ true
    → line' ≡ line ++ first_line bytes → IfSome old (λ input. line' ≡ line ++ first_line input)
if_line None rest bytes line line' keeps has is = tt
if_line (Some input) None bytes line line' keeps has is = absurd keeps
if_line (Some input) (Some rest) bytes line line' keeps has is =
    let within = line_within bytes rest has in
    is ∙ ap (λ (xs : List ℕ). line ++ xs) (sym within.line ∙ ap first_line keeps)

pub if_after : (old rest : Option (List ℕ)) (bytes bytes' : List ℕ)
    → Keeps old (prepend_known bytes rest) → has_line_feed bytes ≡ true → bytes' ≡ after_line bytes
    → IfSome old (λ input. prepend_known bytes' rest ≡ Some (after_line input))
if_after None rest bytes bytes' keeps has is = tt
if_after (Some input) None bytes bytes' keeps has is = absurd keeps
if_after (Some input) (Some rest) bytes bytes' keeps has is =
    let within = line_within bytes rest has in
    ap (λ (xs : List ℕ). Some xs)
    (ap (λ (xs : List ℕ). xs ++ rest) is ∙ sym within.after ∙ ap after_line keeps)

pub if_ended : (old rest : Option (List ℕ)) (bytes : List ℕ) → Keeps old (prepend_known bytes rest)
    → has_line_feed bytes ≡ true → IfSome old (λ input. true ≡ has_line_feed input)
if_ended None rest bytes keeps has = tt
if_ended (Some input) None bytes keeps has = absurd keeps
if_ended (Some input) (Some rest) bytes keeps has =
    let within = line_within bytes rest has in sym within.ended ∙ ap has_line_feed keeps

pub if_further : (old rest : Option (List ℕ)) (bytes bytes' line line' : List ℕ)
    → Keeps old (prepend_known bytes rest) → has_line_feed bytes ≡ false
    → bytes' ≡ after_line bytes → line' ≡ line ++ first_line bytes → IfSome old
    (λ input. IsSomeAnd (prepend_known bytes' rest) (λ rest. IsFurther input line rest line'))
if_further None rest bytes bytes' line line' keeps none after is = tt
if_further (Some input) None bytes bytes' line line' keeps none after is = absurd keeps
if_further (Some input) (Some rest) bytes bytes' line line' keeps none after is =
    let past = line_past bytes rest none in
    let left : bytes' ++ rest ≡ rest =
    ap (λ (xs : List ℕ). xs ++ rest) (after ∙ none_after bytes none) in
    let whole : line' ≡ line ++ bytes = is
    ∙ ap (λ (xs : List ℕ). line ++ xs) (all_line bytes none) in
    let more : line ++ first_line input ≡ line' ++ first_line rest =
    ap (λ (xs : List ℕ). line ++ xs) (sym (ap first_line keeps) ∙ past.line)
    ∙ sym (list.append_assoc line bytes (first_line rest))
    ∙ ap (λ (xs : List ℕ). xs ++ first_line rest) (sym whole) in
    rw left (
      more,
      sym (ap after_line keeps) ∙ past.after,
      sym (ap has_line_feed keeps)
          ∙ past.ended,
    )

-- what is to come of the first line of an input, once the line has some of it

abbrev pub Underway : Option (List ℕ) → Option (List ℕ) → List ℕ → Type 0
Underway known left line =
    IfSome known (λ input. IsSomeAnd left (λ rest. IsFurther input [] rest line))

pub underway : (known left left' : Option (List ℕ)) (line line' : List ℕ) → Underway known left line
    → IfSome left (λ input. IsSomeAnd left' (λ rest. IsFurther input line rest line'))
    → Underway known left' line'
underway None left left' line line' before next = tt
underway (Some input) None left' line line' before next = absurd before
underway (Some input) (Some mid) None line line' before next = absurd next
underway (Some input) (Some mid) (Some rest) line line' (first, after, ended)
    (first', after', ended') = (first ∙ first', after ∙ after', ended ∙ ended')

pub line_whole : (known left : Option (List ℕ)) (line line' : List ℕ)
    → Underway known left line → IfSome left (λ input. line' ≡ line ++ first_line input)
    → IfSome known (λ input. line' ≡ first_line input)
line_whole None left line line' before is = tt
line_whole (Some input) None line line' before is = absurd before
line_whole (Some input) (Some rest) line line' (first, after, ended) is = is ∙ sym first

-- a line that is under way is no longer than the first line of the input
pub at_least : (known left : Option (List ℕ)) (line : List ℕ) (n : ℕ) → Underway known left line
    → n < length line → IfSome known (λ input. n < length (first_line input))
at_least None left line n before more = tt
at_least (Some input) None line n before more = absurd before
at_least (Some input) (Some rest) line n (first, after, ended) more =
    let count : length (first_line input) ≡ length line + length (first_line rest) = ap length first
    ∙ list.length-append line (first_line rest) in
    omega (arith, count, more)

pub whole_least : (known : Option (List ℕ)) (line : List ℕ) (n : ℕ) → IfSome known (λ input. line
    ≡ first_line input) → n < length line → IfSome known (λ input. n < length (first_line input))
whole_least None line n is more = tt
whole_least (Some input) line n is more = rw (sym is) more

pub too_long : (known left left' : Option (List ℕ))
    (line line' : List ℕ) (whole : Option Bool) (n : ℕ) → Underway known left line
    → IfSome whole (λ ended. IfSome left (λ input. line' ≡ line ++ first_line input)) → IfNone whole
    (IfSome left (λ input. IsSomeAnd left' (λ rest. IsFurther input line rest line')))
    → n < length line' → IfSome known (λ input. n < length (first_line input))
too_long known left left' line line' None n before is next more =
    at_least known left' line' n (underway known left left' line line' before next) more
too_long known left left' line line' (Some ended) n before is next more =
    whole_least known line' n (line_whole known left line line' before is) more
