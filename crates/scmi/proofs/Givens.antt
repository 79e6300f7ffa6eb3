-- The first line of an input, and what is behind it.
use Rattle.std.proofs.Common.{◌≡◌, ℕ, suc, ◌+◌, Bool, true, false, cond, not, nat_lt, List, [], ◌∷◌, ◌++◌, length, take, drop, Option, Some, IfSome, refl, sym, ap, subst, ◌∙◌, arith}
use Rattle.std.proofs.lemmas.Bool.Decides.{nat_tests}
use Rattle.std.specs.Fmt.{option_append}
use Rattle.std.specs.List.{position_or_len}
use Rattle.scmi_io.specs.Lines.{after_line, first_line, has_line_feed, is_line_feed}
use Rattle.scmi_live.specs.Hertz.{in_hertz}
use Rattle.scmi_live.specs.Numbered.{IsInNumbers}
use Rattle.scmi.specs.Given.{IsBehindLine, IsGiven, IsGivenBy, OfGiven, is_hardware, with_end}

one_more : (n : ℕ) → 1 + n ≡ suc n
one_more n = omega arith

one_behind : (n : ℕ) → 1 + n + 1 ≡ suc (n + 1)
one_behind n = omega arith

first_yes : (x : ℕ) (xs : List ℕ) → is_line_feed x ≡ true → first_line (x ∷ xs) ≡ []
first_yes x xs e = ap (λ b. take (cond (not b) (1 + position_or_len is_line_feed xs) 0) (x ∷ xs)) e

first_no : (x : ℕ) (xs : List ℕ) → is_line_feed x ≡ false → first_line (x ∷ xs) ≡ x ∷ first_line xs
first_no x xs e = ap (λ b. take (cond (not b) (1 + position_or_len is_line_feed xs) 0) (x ∷ xs)) e
    ∙ ap (λ n. take n (x ∷ xs)) (one_more (position_or_len is_line_feed xs))

after_yes : (x : ℕ) (xs : List ℕ) → is_line_feed x ≡ true → after_line (x ∷ xs) ≡ xs
after_yes x xs e =
    ap (λ b. drop (cond (not b) (1 + position_or_len is_line_feed xs) 0 + 1) (x ∷ xs)) e

after_no : (x : ℕ) (xs : List ℕ) → is_line_feed x ≡ false → after_line (x ∷ xs) ≡ after_line xs
after_no x xs e = ap (λ b. drop (cond (not b) (1 + position_or_len is_line_feed xs) 0 + 1) (x ∷ xs))
    e ∙ ap (λ n. drop n (x ∷ xs)) (one_behind (position_or_len is_line_feed xs))

has_yes : (x : ℕ) (xs : List ℕ) → is_line_feed x ≡ true → has_line_feed (x ∷ xs) ≡ true
has_yes x xs e = ap (λ b. nat_lt (cond (not b) (1 + position_or_len is_line_feed xs) 0)
    (length (x ∷ xs))) e ∙ grind (arith, nat_tests)

has_no : (x : ℕ) (xs : List ℕ) → is_line_feed x ≡ false → has_line_feed (x ∷ xs) ≡ has_line_feed xs
has_no x xs e = ap (λ b. nat_lt (cond (not b) (1 + position_or_len is_line_feed xs) 0)
    (length (x ∷ xs))) e ∙ grind (arith, nat_tests)

feed_is : (x : ℕ) → is_line_feed x ≡ true → 10 ≡ x
feed_is x e = grind (arith, nat_tests)

end_no : (x : ℕ) (line : List ℕ) (ended : Bool)
    → with_end (x ∷ line) ended ≡ x ∷ with_end line ended
end_no x line true = refl
end_no x line false = refl

-- the line, its line feed and what is behind it are the input
whole_step : (x : ℕ) (xs : List ℕ) (b : Bool)
    → is_line_feed x ≡ b → with_end (first_line xs) (has_line_feed xs) ++ after_line xs ≡ xs
    → with_end (first_line (x ∷ xs)) (has_line_feed (x ∷ xs)) ++ after_line (x ∷ xs) ≡ x ∷ xs
whole_step x xs true e rest =
    ap (λ (l : List ℕ). with_end l (has_line_feed (x ∷ xs)) ++ after_line (x ∷ xs))
    (first_yes x xs e) ∙ ap (λ b. with_end [] b ++ after_line (x ∷ xs)) (has_yes x xs e)
    ∙ ap (λ (l : List ℕ). 10 ∷ l) (after_yes x xs e) ∙ ap (λ y. y ∷ xs) (feed_is x e)
whole_step x xs false e rest =
    ap (λ (l : List ℕ). with_end l (has_line_feed (x ∷ xs)) ++ after_line (x ∷ xs)) (first_no x
    xs e) ∙ ap (λ b. with_end (x ∷ first_line xs) b ++ after_line (x ∷ xs)) (has_no x xs e) ∙ ap
    (λ (l : List ℕ). with_end (x ∷ first_line xs) (has_line_feed xs) ++ l) (after_no x xs e)
    ∙ ap (λ (l : List ℕ). l ++ after_line xs) (end_no x (first_line xs) (has_line_feed xs))
    ∙ ap (λ (l : List ℕ). x ∷ l) rest

whole : (input : List ℕ)
    → with_end (first_line input) (has_line_feed input) ++ after_line input ≡ input
whole [] = refl
whole (x ∷ xs) = whole_step x xs (is_line_feed x) refl (whole xs)

-- a first line, and another text behind it
first_kept_step : (x : ℕ) (xs made : List ℕ) (b : Bool)
    → is_line_feed x ≡ b → first_line (first_line xs ++ 10 ∷ made) ≡ first_line xs
    → first_line (first_line (x ∷ xs) ++ 10 ∷ made) ≡ first_line (x ∷ xs)
first_kept_step x xs made true e rest =
    ap (λ (l : List ℕ). first_line (l ++ 10 ∷ made)) (first_yes x xs e) ∙ sym (first_yes x xs e)
first_kept_step x xs made false e rest =
    ap (λ (l : List ℕ). first_line (l ++ 10 ∷ made)) (first_no x xs e) ∙ first_no x
    (first_line xs ++ 10 ∷ made) e ∙ ap (λ (l : List ℕ). x ∷ l) rest ∙ sym (first_no x xs e)

first_kept : (input made : List ℕ) → first_line (first_line input ++ 10 ∷ made) ≡ first_line input
first_kept [] made = refl
first_kept (x ∷ xs) made = first_kept_step x xs made (is_line_feed x) refl (first_kept xs made)

after_kept_step : (x : ℕ) (xs made : List ℕ) (b : Bool) → is_line_feed x ≡ b → after_line
    (first_line xs ++ 10 ∷ made) ≡ made → after_line (first_line (x ∷ xs) ++ 10 ∷ made) ≡ made
after_kept_step x xs made true e rest =
    ap (λ (l : List ℕ). after_line (l ++ 10 ∷ made)) (first_yes x xs e)
after_kept_step x xs made false e rest = ap (λ (l : List ℕ). after_line (l ++ 10 ∷ made))
    (first_no x xs e) ∙ after_no x (first_line xs ++ 10 ∷ made) e ∙ rest

after_kept : (input made : List ℕ) → after_line (first_line input ++ 10 ∷ made) ≡ made
after_kept [] made = refl
after_kept (x ∷ xs) made = after_kept_step x xs made (is_line_feed x) refl (after_kept xs made)

-- an input in a mode `hardware`, with numbers in place of names
numbers_given : (input line given : List ℕ) → line ≡ first_line input → is_hardware line ≡ true
    → IsBehindLine line (after_line input) given → IsGiven input given
numbers_given input line given line_is hardware behind =
    let is : given ≡ first_line input ++ 10 ∷ behind.made = behind.given_is
    ∙ ap (λ (l : List ℕ). l ++ 10 ∷ behind.made) line_is in
    let parts : IsGivenBy true input given = (
      ap first_line is ∙ first_kept input behind.made,
      subst (λ (t : List ℕ). IsInNumbers (in_hertz (after_line input)) t)
          (sym (ap after_line is ∙ after_kept input behind.made)) behind.numbers,
    ) in
    subst (λ b. IsGivenBy b input given) (sym (sym (ap is_hardware line_is) ∙ hardware)) parts

-- an input in another mode
other_given : (input line : List ℕ) → line ≡ first_line input → is_hardware line ≡ false
    → IsGiven input input
other_given input line line_is other =
    subst (λ b. IsGivenBy b input input) (sym (sym (ap is_hardware line_is) ∙ other)) refl

-- what is given of an input, if its mode is one of `hardware`, and what is behind its line was read
pub on_numbers : (Does : Option (List ℕ) → Type 0) (input line written given : List ℕ)
    (left : Option (List ℕ)) → line ≡ first_line input → left ≡ Some (after_line input)
    → is_hardware line ≡ true
    → IfSome left (λ rest. written ≡ rest) → IsBehindLine line written given → Does (Some given)
    → OfGiven Does (Some input)
on_numbers Does input line written given left line_is left_is hardware read behind does =
    let rest_is : written ≡ after_line input =
    subst (λ (o : Option (List ℕ)). IfSome o (λ rest. written ≡ rest)) left_is read in (
      given,
      numbers_given input line given line_is hardware
          (subst (λ rest. IsBehindLine line rest given) rest_is behind),
      does,
    )

-- the same of another mode
pub on_other : (Does : Option (List ℕ) → Type 0) (input line start : List ℕ) (ended : Bool)
    (left given : Option (List ℕ)) → line ≡ first_line input → ended ≡ has_line_feed input
    → left ≡ Some (after_line input) → is_hardware line ≡ false
    → start ≡ with_end line ended → given ≡ option_append (Some start) left → Does given
    → OfGiven Does (Some input)
on_other Does input line start ended left given line_is ended_is left_is other start_is
    given_is does =
    let begins : start ≡ with_end (first_line input) (has_line_feed input) = start_is ∙ ap
    (λ (l : List ℕ). with_end l ended) line_is ∙ ap (with_end (first_line input)) ended_is in
    let is : given ≡ Some input = given_is ∙ ap (option_append (Some start)) left_is
    ∙ ap (λ (s : List ℕ). Some (s ++ after_line input)) begins ∙ ap Some (whole input) in
    (input, other_given input line line_is other, subst Does is does)
