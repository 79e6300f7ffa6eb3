-- Guesses of which no two are the same.
use Rattle.std.proofs.Common.{◌≡◌, ◌≢◌, ◌↔◌, ◌⊎◌, inl, inr, Bool, true, false, ℕ, ◌+◌, ◌-◌, ◌<◌, ◌≤◌, List, [], ◌∷◌, ◌++◌, length, get_or, slice_get, reverse, suc, Some, None, refl, sym, ap, ◌∙◌, subst, arith}
use Rattle.std.specs.List.{All}
use Rattle.std.specs.Prelude.{Result, Ok, Err, IfErr, OnOk}
use Rattle.std.proofs.lemmas.Bool.{cases_lt}
use Rattle.std.proofs.lemmas.List.{append_assoc, get_or_append_left, get_or-append_right, length-append, reverse-append}
use Rattle.std.proofs.lemmas.List.Elements.{All-append, All-head, All-nil, All-pop, All-push}
use Rattle.std.proofs.lemmas.List.Quantifiers.{all_pairs_push}
use Rattle.std.proofs.lemmas.Option.{get_or_from_slice_get, slice_get-get_or, slice_get_within}
use Rattle.std.proofs.Math.Seq.{get_or-append_seam}
use Rattle.scmi_plan.specs.Board.{Board}
use Rattle.scmi_codec.specs.declared.message.Message.{Message}
use Rattle.scmi_judge.specs.Guess.{GoesOn, IsReal}
use Rattle.scmi_judge.specs.Guesses.{AreDifferent, AreFound, AreMany, FindsMany, IsIn, StayFound}
use Rattle.scmi_judge.specs.declared.entry.Entry.{Entry}
use Rattle.scmi_judge.specs.declared.guess.Guess.{Guess}
use Rattle.scmi_judge.specs.declared.unseen.Unseen.{Unseen}
use Rattle.scmi_judge.specs.declared.unseen.Step.{Step}
use Rattle.scmi_judge.proofs.Among.{get-either, get-one, in-front, in-last, moved-real}

at-place : (xs : List Guess) (k : ℕ) (d : Guess) → k < length xs → IsIn (get_or xs k d) xs
at-place xs k d within = (k, slice_get-get_or xs k d within)

-- the last of some guesses moved behind others, of which the first is the last then
pub moved-behind : (left rest others : List Guess) (g : Guess) → others ≡ rest ++ g ∷ []
    → (left ++ g ∷ []) ++ reverse rest ≡ left ++ reverse others
moved-behind left rest others g are =
    append_assoc left (g ∷ []) (reverse rest) ∙ ap (λ xs. left ++ xs)
    (sym (reverse-append rest (g ∷ []))) ∙ ap (λ xs. left ++ reverse xs) (sym are)

-- guesses are as real in the other order
pub real-reversed : (may : Unseen) (board : Board) (entries : List Entry) (guesses : List Guess)
    → All (IsReal may board entries) guesses → All (IsReal may board entries) (reverse guesses)
real-reversed may board entries [] real = real
real-reversed may board entries (g ∷ gs) real =
    subst (All (IsReal may board entries)) (sym (reverse-append (g ∷ []) gs))
    (All-push (IsReal may board entries) (reverse gs) g
    (real-reversed may board entries gs (λ k d less. real (suc k) d (omega (arith, less))))
    (All-head (IsReal may board entries) g gs real))

different-none : AreDifferent []
different-none i j d less within = absurd (omega (arith, within))

pub different-one : (g : Guess) → AreDifferent (g ∷ [])
different-one g i j d less within = absurd (omega (arith, less, within))

pub different-push : (xs : List Guess) (g : Guess) → AreDifferent xs → ¬ (IsIn g xs)
    → AreDifferent (xs ++ g ∷ [])
different-push xs g differ new =
    all_pairs_push (λ x y. x ≢ y) xs g differ
    (λ k d within same. new (subst (λ x. IsIn x xs) same (at-place xs k d within)))

different-popped : (xs ys : List Guess) (g : Guess) → xs ≡ ys ++ g ∷ [] → AreDifferent xs
    → AreDifferent ys × ¬ (IsIn g ys)
different-popped xs ys g are differ = (front, last) where
  all : AreDifferent (ys ++ g ∷ [])
  all = subst AreDifferent are differ

  long : length (ys ++ g ∷ []) ≡ length ys + 1
  long = length-append ys (g ∷ [])

  front : AreDifferent ys
  front i j d less within same =
      let before : i < length ys = omega (arith, less, within) in
      all i j d less (omega (arith, within, long))
      (get_or_append_left ys (g ∷ []) d i before ∙ same
      ∙ sym (get_or_append_left ys (g ∷ []) d j within))

  last : ¬ (IsIn g ys)
  last is =
      let before = slice_get_within ys is.0 g is.1 in
      all is.0 (length ys) g before (omega (arith, long))
      (get_or_append_left ys (g ∷ []) g is.0 before ∙ get_or_from_slice_get ys is.0 g g is.1
      ∙ sym (get_or-append_seam ys g [] g))

different-append : (xs ys : List Guess) → AreDifferent xs → AreDifferent ys
    → ((g : Guess) → IsIn g xs → ¬ (IsIn g ys)) → AreDifferent (xs ++ ys)
different-append xs ys first second apart i j d less within =
    by (cases_lt i (length xs)) (cases_lt j (length xs)) where
      long : length (xs ++ ys) ≡ length xs + length ys
      long = length-append xs ys

      back : (k : ℕ) → length xs ≤ k → get_or (xs ++ ys) k d ≡ get_or ys (k - length xs) d
      back k past = get_or-append_right xs ys (length xs) k d refl past

      by : (i < length xs) ⊎ (length xs ≤ i) → (j < length xs) ⊎ (length xs ≤ j)
          → get_or (xs ++ ys) i d ≢ get_or (xs ++ ys) j d
      by (inl before) (inl too) same = first i j d less too
          (sym (get_or_append_left xs ys d i before) ∙ same ∙ get_or_append_left xs ys d j too)
      by (inl before) (inr past) same =
          let there = at-place ys (j - length xs) d (omega (arith, within, long, past)) in
          apart (get_or xs i d) (at-place xs i d before)
          (subst (λ x. IsIn x ys)
          (sym (sym (get_or_append_left xs ys d i before) ∙ same ∙ back j past)) there)
      by (inr past) (inl before) same = absurd (omega (arith, less, past, before))
      by (inr past) (inr too) same =
          second (i - length xs) (j - length xs) d (omega (arith, less, past, too))
          (omega (arith, within, long, too))
          (sym (back i past) ∙ same ∙ back j too)

not-in-both : (xs ys : List Guess) (g : Guess) → ¬ (IsIn g xs) → ¬ (IsIn g ys)
    → ¬ (IsIn g (xs ++ ys))
not-in-both xs ys g first second is = by (get-either xs ys is.0 g is.1) where
  by : (slice_get xs is.0 ≡ Some g) ⊎ ((j : ℕ) × (slice_get ys j ≡ Some g)) → ⊥
  by (inl here) = first (is.0, here)
  by (inr there) = second there

not-in-more : (xs : List Guess) (g made : Guess) → ¬ (IsIn made xs) → made ≢ g
    → ¬ (IsIn made (xs ++ g ∷ []))
not-in-more xs g made none other =
    not-in-both xs (g ∷ []) made none (λ is. other (sym (get-one g is.0 made is.1)))

-- a guess that a search does not find is not there
pub absent : (xs seen : List Guess) (g : Guess) (has : Bool) → seen ≡ xs
    → (has ≡ true) ↔ IsIn g seen → has ≡ false → ¬ (IsIn g xs)
absent xs seen g has are finds hasnt is =
    absurd (let found = finds.1 (subst (IsIn g) (sym are) is) in cc)

-- guesses that are found: at the start all are left; the last of those that are left is tried;
-- another is left; and one more than there are
module _ (may : Unseen) (board : Board) (entries : List Entry) where
  pub found-start : (left : List Guess) → All (IsReal may board entries) left → AreDifferent left
      → AreFound may board entries [] left
  found-start left real differ =
      record {
        tried_real = All-nil (IsReal may board entries);
        left_real = real;
        tried_differ = different-none;
        left_differ = differ;
        none_twice = λ g is there. absurd (let no : None ≡ Some g = is.1 in cc);
      }

  pub found-moved : (tried untried rest : List Guess) (g : Guess) → untried ≡ rest ++ g ∷ []
      → AreFound may board entries tried untried
      → AreFound may board entries (tried ++ g ∷ []) rest
  found-moved tried untried rest g are found =
      let real = All-pop (IsReal may board entries) untried rest (Some g) are found.left_real in
      let differ = different-popped untried rest g are found.left_differ in
      record {
        tried_real = All-push (IsReal may board entries) tried g found.tried_real real.1;
        left_real = real.0;
        tried_differ = different-push tried g found.tried_differ
            (λ is. found.none_twice g is (in-last g rest untried are));
        left_differ = differ.0;
        none_twice = λ x is there.
            not-in-more tried g x (λ here. found.none_twice x here
            (subst (IsIn x) (sym are) (in-front x rest (g ∷ []) there)))
            (λ same. differ.1 (subst (λ y. IsIn y rest) same there)) is;
      }

  found-grown : (tried left new : List Guess) (made : Guess) → AreFound may board entries tried left
      → IsReal may board entries made → ¬ (IsIn made tried) → ¬ (IsIn made left)
      → new ≡ left ++ made ∷ [] → AreFound may board entries tried new
  found-grown tried left new made found real untried unleft are =
      subst (AreFound may board entries tried) (sym are)
      record {
        tried_real = found.tried_real;
        left_real = All-push (IsReal may board entries) left made found.left_real real;
        tried_differ = found.tried_differ;
        left_differ = different-push left made found.left_differ unleft;
        none_twice = λ x is. not-in-both left (made ∷ []) x (found.none_twice x is)
            (λ same. untried (subst (λ y. IsIn y tried) (sym (get-one made same.0 x same.1)) is));
      }

  found-many : (tried left : List Guess) (made : Guess) (count : ℕ) → AreFound may board entries
      tried left → IsReal may board entries made → ¬ (IsIn made tried) → ¬ (IsIn made left)
      → count ≡ length tried + length left + 1 → AreMany may board entries count
  found-many tried left made count found real untried unleft is =
      record {
        guesses = (tried ++ left) ++ made ∷ [];
        real = All-push (IsReal may board entries) (tried ++ left) made (All-append
            (IsReal may board entries) tried left found.tried_real found.left_real) real;
        different = different-push (tried ++ left) made
            (different-append tried left found.tried_differ found.left_differ found.none_twice)
            (not-in-both tried left made untried unleft);
        as_many = length-append (tried ++ left) (made ∷ [])
            ∙ ap (λ n. n + 1) (length-append tried left) ∙ sym is;
      }

-- an answer is not both
pub not-both : (b : Bool) → b ≡ false → b ≡ true → ⊥
not-both b is-not is = absurd (let both : false ≡ true = sym is-not ∙ is in cc)

-- one that is left, and was not before, leaves them different
pub different-left : {X E : Type 0} (r : Result X E) (xs new : List Guess) (g : Guess)
    → OnOk r (new ≡ xs ++ g ∷ []) → ¬ (IsIn g xs) → OnOk r (AreDifferent xs → AreDifferent new)
different-left (Ok x) xs new g are none =
    λ differ. subst AreDifferent (sym are) (different-push xs g differ none)
different-left (Err e) xs new g are none = are

-- what holds of an error holds of the result that is it
pub if-err : {X E : Type 0} (r : Result X E) (e : E) (P : E → Type 0) → r ≡ Err e → P e → IfErr r P
if-err r e P is holds = subst (λ x. IfErr x P) (sym is) holds

-- guesses that stay so at one step more
pub stays-found : (may r : Unseen) (g : Guess) (tried t left mid new : List Guess) → r ≡ may
    → t ≡ tried → StayFound may g tried left mid → StayFound r g t mid new
    → StayFound may g tried left new
stays-found may r g tried t left mid new is are first second board entries found =
    subst (λ x. StayFound x g tried mid new) is (subst (λ xs. StayFound r g xs mid new) are second)
    board entries (first board entries found)

-- and at which as many are found
pub finds-later : (may r : Unseen) (g : Guess) (tried t left mid : List Guess) (count n : ℕ)
    → r ≡ may → t ≡ tried → n ≡ count → StayFound may g tried left mid
    → FindsMany r (t ++ g ∷ []) mid n → FindsMany may (tried ++ g ∷ []) left count
finds-later may r g tried t left mid count n is are many first second board entries found =
    subst (λ x. AreMany may board entries x) many
    (subst (λ x. FindsMany x (tried ++ g ∷ []) mid n) is (subst (λ xs. FindsMany r
    (xs ++ g ∷ []) mid n) are second) board entries (first board entries found))

-- the first of the messages
pub first-of : (ms : List Message) → 0 < length ms → (m : Message) × (slice_get ms 0 ≡ Some m)
first-of [] some = absurd (omega (arith, some))
first-of (m ∷ ms) some = (m, refl)

-- a guess that another moved on to by a step, and that was not there before
module _ (may : Unseen) (g made : Guess) (step : Step)
    (goes : GoesOn may g step made) (other : made ≢ g) (tried left : List Guess)
    (untried : ¬ (IsIn made tried)) (unleft : ¬ (IsIn made left))
    (board : Board) (entries : List Entry)
    (found : AreFound may board entries (tried ++ g ∷ []) left) where
  real : IsReal may board entries g
  real =
      (All-pop (IsReal may board entries) (tried ++ g ∷ []) tried (Some g) refl found.tried_real).1

  new-real : IsReal may board entries made
  new-real = moved-real may g made step goes board entries real

  nowhere : ¬ (IsIn made (tried ++ g ∷ []))
  nowhere = not-in-more tried g made untried other

  pub step-found : (new : List Guess) → new ≡ left ++ made ∷ []
      → AreFound may board entries (tried ++ g ∷ []) new
  step-found new are = found-grown may board entries
      (tried ++ g ∷ []) left new made found new-real nowhere unleft are

  pub step-many : (count : ℕ) → count ≡ length tried + length left + 2
      → AreMany may board entries count
  step-many count is =
      found-many may board entries (tried ++ g ∷ []) left made count found new-real nowhere unleft
      (let more = length-append tried (g ∷ []) in omega (arith, is, more))
