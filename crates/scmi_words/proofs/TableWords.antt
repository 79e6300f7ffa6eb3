-- Words and status values.
use Rattle.std.proofs.Common.{◌≡◌, ◌≢◌, ℕ, zero, suc, ◌+◌, ◌<◌, ◌^◌, List, [], ◌∷◌, ◌++◌, length, set, get_or, sym, refl, ap, ◌∙◌, subst, arith, length-append, get_or-set_same, get_or-set_other, eqb, eq-eqb, ne_eqb, Option, Some}
use mathlib.Core.Logic.{dite}
use mathlib.Core.Option.{some, some-injective}
use lib.ListN.{get_elem?}
use native.Mathlib.Decide.{ℕ_discrete}
use Rattle.std.specs.List.{last_or}
use Rattle.std.specs.Bool.{MatchBool}
use Rattle.scmi_words.specs.Area.{Begins}

pub snoc_front : (xs : List ℕ) (a i : ℕ) → i < length xs → get_or (xs ++ a ∷ []) i 0 ≡ get_or xs i 0
snoc_front [] a i h = absurd (omega arith)
snoc_front (x ∷ xs) a zero h = refl
snoc_front (x ∷ xs) a (suc i) h = snoc_front xs a i (omega arith)

pub snoc_end : (xs : List ℕ) (a : ℕ) → get_or (xs ++ a ∷ []) (length xs) 0 ≡ a
snoc_end [] a = refl
snoc_end (x ∷ xs) a = snoc_end xs a

pub last_snoc : {A : Type 0} (o : Option A) (xs : List A) (a : A)
    → last_or o (xs ++ a ∷ []) ≡ Some a
last_snoc o [] a = refl
last_snoc o (x ∷ xs) a = last_snoc (Some x) xs a

-- one more word stands after those that stood
pub begins_more : (words xs : List ℕ) (j a : ℕ) → j ≡ 2 + length xs → j < length words
    → Begins words xs → Begins (set words j a) (xs ++ a ∷ [])
begins_more words xs j a here fits b i lt = dite (ℕ_discrete i (length xs))
    (λ e. let at : 2 + i ≡ j = omega arith in
    subst (λ (k : ℕ). get_or (set words j a) k 0 ≡ get_or (xs ++ a ∷ []) i 0) (sym at)
    (get_or-set_same words j a 0 fits
    ∙ sym (subst (λ (k : ℕ). get_or (xs ++ a ∷ []) k 0 ≡ a) (sym e) (snoc_end xs a))))
    (λ ne. let less : i < length xs = omega (arith, length-append xs (a ∷ [])) in
    get_or-set_other words j (2 + i) a 0 (λ e. omega arith)
    ∙ (b i less ∙ sym (snoc_front xs a i less)))

-- a change of the status leaves the area alone
pub begins_after_status : (words xs : List ℕ) (a : ℕ) → Begins words xs → Begins (set words 0 a) xs
begins_after_status words xs a b i lt =
    get_or-set_other words 0 (2 + i) a 0 (λ e. omega arith) ∙ b i lt

pub narrow_after : (words : List ℕ) (j a : ℕ) → a < 2 ^ 32 → ((i : ℕ) → 0 < i → get_or words i 0
    < 2 ^ 32) → j < length words → (i : ℕ) → 0 < i → get_or (set words j a) i 0 < 2 ^ 32
narrow_after words j a small n fits i pos = dite (ℕ_discrete i j)
    (λ e. let is : get_or (set words j a) i 0 ≡ a = subst (λ (k : ℕ). get_or (set words j a) k 0
    ≡ a) (sym e) (get_or-set_same words j a 0 fits) in omega arith)
    (λ ne. let is : get_or (set words j a) i 0
    ≡ get_or words i 0 = get_or-set_other words j i a 0 ne in let old = n i pos in omega arith)

-- the two cases of a test of equality
pub match_equal : (n m : ℕ) (P Q : Type 0) → (n ≡ m → P) → (n ≢ m → Q) → MatchBool (eqb n m) P Q
match_equal n m P Q hit miss = dite (ℕ_discrete n m)
    (λ e. subst (λ b. MatchBool b P Q) (sym (eq-eqb n m e)) (hit e))
    (λ ne. subst (λ b. MatchBool b P Q) (sym (ne_eqb n m ne)) (miss ne))

-- the words after a step that changes the status alone
pub narrow_status : (words : List ℕ) (a : ℕ) → ((i : ℕ) → 0 < i → get_or words i 0 < 2 ^ 32)
    → (i : ℕ) → 0 < i → get_or (set words 0 a) i 0 < 2 ^ 32
narrow_status words a n i pos =
    let is : get_or (set words 0 a) i 0 ≡ get_or words i 0 =
    get_or-set_other words 0 i a 0 (λ e. omega arith) in
    let old = n i pos in
    omega arith

-- two lists of one length with the same elements
pub same_words : (xs ys : List ℕ) → length xs ≡ length ys
    → ((i : ℕ) → i < length xs → get_elem? xs i ≡ some (get_or ys i 0)) → xs ≡ ys
same_words [] [] e h = refl
same_words [] (y ∷ ys) e h = absurd (omega arith)
same_words (x ∷ xs) [] e h = absurd (omega arith)
same_words (x ∷ xs) (y ∷ ys) e h = λ j. some-injective x y (h 0 (omega arith)) j
    ∷ same_words xs ys (omega arith) (λ i lt. h (suc i) (omega arith)) j

-- one more word copied
pub copied_more : (xs words : List ℕ) (i a : ℕ) → i < length words
    → ((k : ℕ) → k < i → get_elem? xs k ≡ some (get_or words k 0)) → get_elem? xs i ≡ some a
    → (k : ℕ) → k < i + 1 → get_elem? xs k ≡ some (get_or (set words i a) k 0)
copied_more xs words i a fits before here k lt = dite (ℕ_discrete k i)
    (λ e. subst (λ (z : ℕ). get_elem? xs z ≡ some (get_or (set words i a) z 0)) (sym e)
    (here ∙ ap (λ (z : ℕ). some z) (sym (get_or-set_same words i a 0 fits))))
    (λ ne. before k (omega arith)
    ∙ ap (λ (z : ℕ). some z) (sym (get_or-set_other words i k a 0 ne)))
