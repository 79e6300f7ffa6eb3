-- The test of a number, and the number that a text encodes.
use Rattle.std.proofs.Common.{ℕ, ◌<◌, ◌≤◌, ◌^◌, ◌≡◌, ◌≢◌, Bool, true, false, ◌&&◌, not, cond, ltb, leb, eqb, List, [], ◌∷◌, length, Option, Some, None, SomeIff, slice_index, refl}
use Rattle.std.specs.Bool.{MatchBool}
use Rattle.std.specs.Char.{is_digit}
use Rattle.std.specs.List.{list_all}
use Rattle.std.specs.Str.Parse.{AllDigits}
use Rattle.std.proofs.lemmas.Bool.{and_parts, and_from, ltb-true, lt-ltb, leb-true, le-leb, eqb-true, false_from_ne_true, not_from_false, eq-eqb}
use Rattle.scmi_board.specs.Number.{IsNumber, has_hexadecimal_mark, has_number_form, is_numeral, is_number, number_base, number_digits, number_of, number_value}

all_digits : (base : ℕ) (ds : List ℕ) → list_all (λ c. is_digit c base) ds ≡ true
    → AllDigits base ds
all_digits base [] e = tt
all_digits base (c ∷ cs) e =
    let parts = and_parts (is_digit c base) (list_all (λ c. is_digit c base) cs) e in
    (ltb-true _ _ parts.0, all_digits base cs parts.1)

all_pass : (base : ℕ) (ds : List ℕ) → AllDigits base ds → list_all (λ c. is_digit c base) ds ≡ true
all_pass base [] all = refl
all_pass base (c ∷ cs) all = and_from _ _ (lt-ltb _ _ all.0) (all_pass base cs all.1)

form_of : (mark : Bool) (text : List ℕ)
    → cond mark (leb (length text) 18) (not (ltb 1 (length text) && eqb (slice_index text 0) 48))
    ≡ true → MatchBool mark (length text ≤ 18) (1 < length text → slice_index text 0 ≢ 48)
form_of true text e = leb-true _ _ e
form_of false text e = λ long. λ zero. let both : (ltb 1 (length text)
    && eqb (slice_index text 0) 48) ≡ true = and_from _ _ (lt-ltb _ _ long) (eq-eqb _ _ zero) in cc

form_passes : (mark : Bool) (text : List ℕ)
    → MatchBool mark (length text ≤ 18) (1 < length text → slice_index text 0 ≢ 48) → cond mark
    (leb (length text) 18) (not (ltb 1 (length text) && eqb (slice_index text 0) 48)) ≡ true
form_passes true text form = le-leb _ _ form
form_passes false text form =
    not_from_false (ltb 1 (length text) && eqb (slice_index text 0) 48)
    (false_from_ne_true (ltb 1 (length text) && eqb (slice_index text 0) 48)
    (λ both. let parts = and_parts (ltb 1 (length text)) (eqb (slice_index text 0) 48) both in
    form (ltb-true _ _ parts.0) (eqb-true _ _ parts.1)))

-- the test says what a number is
pub number_passes : (bits : ℕ) (text : List ℕ) → IsNumber bits text → is_number bits text ≡ true
number_passes bits text is =
    and_from _ _ (and_from _ _ (and_from _ _ (lt-ltb _ _ is.digits.0) (all_pass (number_base text)
    (number_digits text) is.digits.1)) (form_passes (has_hexadecimal_mark text) text is.form))
    (lt-ltb _ _ is.fits)

pub passes_number : (bits : ℕ) (text : List ℕ) → is_number bits text ≡ true → IsNumber bits text
passes_number bits text e =
    let outer = and_parts (is_numeral (number_base text) (number_digits text)
    && has_number_form text) (ltb (number_value text) (2 ^ bits)) e in
    let inner = and_parts (is_numeral (number_base text) (number_digits text))
    (has_number_form text) outer.0 in
    let digits = and_parts (ltb 0 (length (number_digits text)))
    (list_all (λ c. is_digit c (number_base text)) (number_digits text)) inner.0 in
    record {
      digits = (ltb-true _ _ digits.0, all_digits (number_base text) (number_digits text) digits.1);
      form = form_of (has_hexadecimal_mark text) text inner.1;
      fits = ltb-true _ _ outer.1;
    }

-- what is a value only for a number is the number that the text encodes
pub number_is : (bits : ℕ) (text : List ℕ) (r : Option ℕ)
    → SomeIff r (IsNumber bits text) (number_value text) → r ≡ number_of bits text
unfolding number_of
number_is bits text None none =
    let no : is_number bits text ≡ false =
    false_from_ne_true (is_number bits text) (λ e. none (passes_number bits text e)) in
    rw no refl
number_is bits text (Some n) some = rw (number_passes bits text some.0, some.1) refl
