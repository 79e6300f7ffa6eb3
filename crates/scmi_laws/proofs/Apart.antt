-- Lists of numbers that all differ.
use Rattle.std.proofs.Common.{◌≡◌, ◌≢◌, ◌⊎◌, inl, inr, ℕ, zero, suc, ◌+◌, ◌<◌, ◌≤◌, List, [], ◌∷◌, ◌++◌, take, drop, sym, subst, arith}
use Rattle.std.specs.List.{AllByRecursion, AllPairs, AllZip}
use Rattle.std.proofs.lemmas.List.Elements.{All-from_recursion}
use Rattle.scmi_core.specs.Pending.{promoted}
use Rattle.scmi_core.proofs.Promotions.{IsFirst, promotion}

-- each differs from all later ones
abbrev pub Apart : List ℕ → Type 0
Apart [] = Unit {0}
Apart (n ∷ ns) = AllByRecursion (λ m. n ≢ m) ns × Apart ns

-- all are below a number
abbrev pub AllBelow : ℕ → List ℕ → Type 0
AllBelow n ns = AllByRecursion (λ k. k < n) ns

pub below-more : (n m : ℕ) → n ≤ m → (ns : List ℕ) → AllBelow n ns → AllBelow m ns
below-more n m le [] all = tt
below-more n m le (k ∷ ks) all =
    let here : k < n = all.0 in
    (omega arith, below-more n m le ks all.1)

-- one more in the middle, and one less
module _ (P : ℕ → Type 0) where
  pub each-insert : (ns ms : List ℕ) (n : ℕ) → AllByRecursion P (ns ++ ms) → P n
      → AllByRecursion P (ns ++ n ∷ ms)
  each-insert [] ms n all here = (here, all)
  each-insert (k ∷ ns) ms n all here = (all.0, each-insert ns ms n all.1 here)

  pub each-remove : (ns ms : List ℕ) (n : ℕ) → AllByRecursion P (ns ++ n ∷ ms)
      → AllByRecursion P (ns ++ ms)
  each-remove [] ms n all = all.1
  each-remove (k ∷ ns) ms n all = (all.0, each-remove ns ms n all.1)

  pub each-push : (ns : List ℕ) (n : ℕ) → AllByRecursion P ns → P n
      → AllByRecursion P (ns ++ n ∷ [])
  each-push [] n all here = (here, tt)
  each-push (k ∷ ns) n all here = (all.0, each-push ns n all.1 here)

  each-front : (ns ms : List ℕ) → AllByRecursion P (ns ++ ms) → AllByRecursion P ns
  each-front [] ms all = tt
  each-front (k ∷ ns) ms all = (all.0, each-front ns ms all.1)

-- one moved to the front
module _ (P : ℕ → Type 0) where
  each-at : (before after : List ℕ) (n : ℕ) → AllByRecursion P (before ++ n ∷ after) → P n
  each-at [] after n all = all.0
  each-at (k ∷ ks) after n all = each-at ks after n all.1

  each-moved : (ns before after : List ℕ) (n : ℕ)
      → AllByRecursion P (ns ++ (before ++ n ∷ after))
      → AllByRecursion P (ns ++ n ∷ (before ++ after))
  each-moved [] before after n all = (each-at before after n all, each-remove P before after n all)
  each-moved (k ∷ ns) before after n all = (all.0, each-moved ns before after n all.1)

  pub each-promoted : (place : ℕ) (ns ms : List ℕ) → AllByRecursion P (ns ++ ms)
      → AllByRecursion P (ns ++ promoted place ms)
  each-promoted place ns ms all = by (promotion place ms)
    where
      by : (promoted place ms ≡ ms) ⊎ IsFirst place ms → AllByRecursion P (ns ++ promoted place ms)
      by (inl same) = subst (λ it. AllByRecursion P (ns ++ it)) (sym same) all
      by (inr is) =
          subst (λ it. AllByRecursion P (ns ++ it)) (sym is.moved)
          (each-moved ns is.before is.after is.it
          (subst (λ it. AllByRecursion P (ns ++ it)) is.whole all))

-- a number above all differs from all
above-differs : (n : ℕ) (ns : List ℕ) → AllBelow n ns → AllByRecursion (λ m. n ≢ m) ns
above-differs n [] all = tt
above-differs n (k ∷ ks) all =
    let here : k < n = all.0 in
    let differ : n ≢ k = omega arith in
    (differ, above-differs n ks all.1)

pub apart-insert : (ns ms : List ℕ) (n : ℕ) → Apart (ns ++ ms) → AllBelow n (ns ++ ms)
    → Apart (ns ++ n ∷ ms)
apart-insert [] ms n apart below = (above-differs n ms below, apart)
apart-insert (k ∷ ns) ms n apart below =
    let here : k < n = below.0 in
    let differ : k ≢ n = omega arith in
    (each-insert (λ m. k ≢ m) ns ms n apart.0 differ, apart-insert ns ms n apart.1 below.1)

pub apart-remove : (ns ms : List ℕ) (n : ℕ) → Apart (ns ++ n ∷ ms) → Apart (ns ++ ms)
apart-remove [] ms n apart = apart.1
apart-remove (k ∷ ns) ms n apart =
    (each-remove (λ m. k ≢ m) ns ms n apart.0, apart-remove ns ms n apart.1)

pub apart-push : (ns : List ℕ) (n : ℕ) → Apart ns → AllBelow n ns → Apart (ns ++ n ∷ [])
apart-push [] n apart below = (tt, tt)
apart-push (k ∷ ns) n apart below =
    let here : k < n = below.0 in
    let differ : k ≢ n = omega arith in
    (each-push (λ m. k ≢ m) ns n apart.0 differ, apart-push ns n apart.1 below.1)

pub apart-front : (ns ms : List ℕ) → Apart (ns ++ ms) → Apart ns
apart-front [] ms apart = tt
apart-front (k ∷ ns) ms apart = (each-front (λ m. k ≢ m) ns ms apart.0, apart-front ns ms apart.1)

-- one that is moved to the front differs from the others
differs-from : (before after : List ℕ) (n : ℕ) → Apart (before ++ n ∷ after)
    → AllByRecursion (λ m. n ≢ m) (before ++ after)
differs-from [] after n apart = apart.0
differs-from (k ∷ ks) after n apart = (
  λ same. each-at (λ m. k ≢ m) ks after n apart.0 (sym same),
  differs-from ks after n apart.1,
)

apart-moved : (ns before after : List ℕ) (n : ℕ) → Apart (ns ++ (before ++ n ∷ after))
    → Apart (ns ++ n ∷ (before ++ after))
apart-moved [] before after n apart =
    (differs-from before after n apart, apart-remove before after n apart)
apart-moved (k ∷ ns) before after n apart =
    (each-moved (λ m. k ≢ m) ns before after n apart.0, apart-moved ns before after n apart.1)

pub apart-promoted : (place : ℕ) (ns ms : List ℕ) → Apart (ns ++ ms)
    → Apart (ns ++ promoted place ms)
apart-promoted place ns ms apart = by (promotion place ms)
  where
    by : (promoted place ms ≡ ms) ⊎ IsFirst place ms → Apart (ns ++ promoted place ms)
    by (inl same) = subst (λ it. Apart (ns ++ it)) (sym same) apart
    by (inr is) =
        subst (λ it. Apart (ns ++ it)) (sym is.moved)
        (apart-moved ns is.before is.after is.it (subst (λ it. Apart (ns ++ it)) is.whole apart))

-- the same by places
pub all-pairs : (ns : List ℕ) → Apart ns → AllPairs (λ n m. n ≢ m) ns
all-pairs [] apart i j d lt inside = absurd (omega arith)
all-pairs (n ∷ ns) apart i zero d lt inside = absurd (omega arith)
all-pairs (n ∷ ns) apart zero (suc j) d lt inside =
    All-from_recursion (λ m. n ≢ m) ns apart.0 j d (omega arith)
all-pairs (n ∷ ns) apart (suc i) (suc j) d lt inside =
    all-pairs ns apart.1 i j d (omega arith) (omega arith)

-- PAIRS OF TWO LISTS

module _ {A B : Type 0} (R : A → B → Type 0) where
  pub zip-append : (xs us : List A) (ys vs : List B) → AllZip R xs ys → AllZip R us vs
      → AllZip R (xs ++ us) (ys ++ vs)
  zip-append [] us [] vs all more = more
  zip-append [] us (y ∷ ys) vs all more = absurd all
  zip-append (x ∷ xs) us [] vs all more = absurd all
  zip-append (x ∷ xs) us (y ∷ ys) vs all more = (all.0, zip-append xs us ys vs all.1 more)

  pub zip-weaker : (Q : A → B → Type 0) → ((x : A) (y : B) → R x y → Q x y)
      → (xs : List A) (ys : List B) → AllZip R xs ys → AllZip Q xs ys
  zip-weaker Q each [] [] all = tt
  zip-weaker Q each [] (y ∷ ys) all = absurd all
  zip-weaker Q each (x ∷ xs) [] all = absurd all
  zip-weaker Q each (x ∷ xs) (y ∷ ys) all =
      (each x y all.0, zip-weaker Q each xs ys all.1)

  zip-take : (n : ℕ) (xs : List A) (ys : List B) → AllZip R xs ys
      → AllZip R (take n xs) (take n ys)
  zip-take zero xs ys all = tt
  zip-take (suc n) [] [] all = tt
  zip-take (suc n) [] (y ∷ ys) all = absurd all
  zip-take (suc n) (x ∷ xs) [] all = absurd all
  zip-take (suc n) (x ∷ xs) (y ∷ ys) all = (all.0, zip-take n xs ys all.1)

  zip-drop : (n : ℕ) (xs : List A) (ys : List B) → AllZip R xs ys
      → AllZip R (drop n xs) (drop n ys)
  zip-drop zero xs ys all = all
  zip-drop (suc n) [] [] all = tt
  zip-drop (suc n) [] (y ∷ ys) all = absurd all
  zip-drop (suc n) (x ∷ xs) [] all = absurd all
  zip-drop (suc n) (x ∷ xs) (y ∷ ys) all = zip-drop n xs ys all.1

  pub zip-promoted : (place : ℕ) (xs : List A) (ys : List B) → AllZip R xs ys
      → AllZip R (promoted place xs) (promoted place ys)
  zip-promoted place xs ys all =
      zip-append (take 1 (drop place xs)) (take place xs ++ drop (1 + place) xs)
      (take 1 (drop place ys)) (take place ys ++ drop (1 + place) ys)
      (zip-take 1 (drop place xs) (drop place ys) (zip-drop place xs ys all))
      (zip-append (take place xs) (drop (1 + place) xs) (take place ys) (drop (1 + place) ys)
      (zip-take place xs ys all) (zip-drop (1 + place) xs ys all))
