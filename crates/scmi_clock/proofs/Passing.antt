-- The last and the first number of a list that pass a test.
use Rattle.std.proofs.Common.{◌≡◌, ◌⊎◌, inl, inr, ℕ, zero, suc, ◌<◌, Bool, true, false, List, [], ◌∷◌, length, get_or, Option, Some, None, refl, sym, ap, ◌∙◌, arith, if◌then◌else◌}
use Rattle.std.specs.List.{filter, find, last_or}
use Rattle.std.proofs.lemmas.Bool.{cases_Bool, cases_order}

-- no number of the list passes
pub record PassesNowhere (p : ℕ → Bool) (xs : List ℕ) : Type 0 where
  pub fails : (k : ℕ) → k < length xs → p (get_or xs k 0) ≡ false

-- r is the last that passes
pub record IsLast (p : ℕ → Bool) (xs : List ℕ) (r : ℕ) : Type 0 where
  pub place : ℕ
  pub within : place < length xs
  pub is : get_or xs place 0 ≡ r
  pub passes : p r ≡ true
  pub after : (k : ℕ) → place < k → k < length xs → p (get_or xs k 0) ≡ false

-- r is the first that passes
pub record IsFirst (p : ℕ → Bool) (xs : List ℕ) (r : ℕ) : Type 0 where
  pub place : ℕ
  pub within : place < length xs
  pub is : get_or xs place 0 ≡ r
  pub passes : p r ≡ true
  pub before : (k : ℕ) → k < place → p (get_or xs k 0) ≡ false

module _ (p : ℕ → Bool) where
  fails_first : (x : ℕ) (xs : List ℕ) → p x ≡ false → PassesNowhere p xs → PassesNowhere p (x ∷ xs)
  fails_first x xs unmet rest = record { fails = by } where
    by : (k : ℕ) → k < length (x ∷ xs) → p (get_or (x ∷ xs) k 0) ≡ false
    by zero h = unmet
    by (suc k) h = rest.fails k (omega arith)

  later : (x r : ℕ) (xs : List ℕ) → IsLast p xs r → IsLast p (x ∷ xs) r
  later x r xs l = record {
    place = suc l.place;
    within = omega (arith, l.within);
    is = l.is;
    passes = l.passes;
    after = by;
  } where
    by : (k : ℕ) → suc l.place < k → k < length (x ∷ xs) → p (get_or (x ∷ xs) k 0) ≡ false
    by zero less h = absurd (omega arith)
    by (suc k) less h = l.after k (omega arith) (omega arith)

  only : (x : ℕ) (xs : List ℕ) → p x ≡ true → PassesNowhere p xs → IsLast p (x ∷ xs) x
  only x xs met rest =
      record { place = 0; within = omega arith; is = refl; passes = met; after = by } where
        by : (k : ℕ) → 0 < k → k < length (x ∷ xs) → p (get_or (x ∷ xs) k 0) ≡ false
        by zero less h = absurd (omega arith)
        by (suc k) less h = rest.fails k (omega arith)

  pub last_cases : (o : Option ℕ) (xs : List ℕ)
      → ((last_or o (filter p xs) ≡ o) × PassesNowhere p xs)
      ⊎ ((r : ℕ) × (last_or o (filter p xs) ≡ Some r) × IsLast p xs r)
  last_cases o [] = inl (refl, record { fails = λ k h. elim h [ ] })
  last_cases o (x ∷ xs) = by (cases_Bool (p x)) (last_cases (Some x) xs) (last_cases o xs) where
    step : (b : Bool) → p x ≡ b
        → last_or o (filter p (x ∷ xs)) ≡ last_or o (if b then x ∷ filter p xs else filter p xs)
    step b e = ap (λ b. last_or o (if b then x ∷ filter p xs else filter p xs)) e

    by : ((p x ≡ true) ⊎ (p x ≡ false))
        → ((last_or (Some x) (filter p xs) ≡ Some x) × PassesNowhere p xs)
        ⊎ ((r : ℕ) × (last_or (Some x) (filter p xs) ≡ Some r) × IsLast p xs r)
        → ((last_or o (filter p xs) ≡ o) × PassesNowhere p xs)
        ⊎ ((r : ℕ) × (last_or o (filter p xs) ≡ Some r) × IsLast p xs r)
        → ((last_or o (filter p (x ∷ xs)) ≡ o) × PassesNowhere p (x ∷ xs))
        ⊎ ((r : ℕ) × (last_or o (filter p (x ∷ xs)) ≡ Some r) × IsLast p (x ∷ xs) r)
    by (inl met) (inl t) onward = inr (x, step true met ∙ t.0, only x xs met t.1)
    by (inl met) (inr t) onward = inr (t.0, step true met ∙ t.1, later x t.0 xs t.2)
    by (inr unmet) onward (inl t) = inl (step false unmet ∙ t.0, fails_first x xs unmet t.1)
    by (inr unmet) onward (inr t) = inr (t.0, step false unmet ∙ t.1, later x t.0 xs t.2)

  sooner : (x r : ℕ) (xs : List ℕ) → p x ≡ false → IsFirst p xs r → IsFirst p (x ∷ xs) r
  sooner x r xs unmet f = record {
    place = suc f.place;
    within = omega (arith, f.within);
    is = f.is;
    passes = f.passes;
    before = by;
  } where
    by : (k : ℕ) → k < suc f.place → p (get_or (x ∷ xs) k 0) ≡ false
    by zero h = unmet
    by (suc k) h = f.before k (omega arith)

  pub first_cases : (xs : List ℕ)
      → ((find p xs ≡ None) × PassesNowhere p xs)
      ⊎ ((r : ℕ) × (find p xs ≡ Some r) × IsFirst p xs r)
  first_cases [] = inl (refl, record { fails = λ k h. elim h [ ] })
  first_cases (x ∷ xs) = by (cases_Bool (p x)) (first_cases xs) where
    step : (b : Bool) → p x ≡ b → find p (x ∷ xs) ≡ (if b then Some x else find p xs)
    step b e = ap (λ b. if b then Some x else find p xs) e

    by : ((p x ≡ true) ⊎ (p x ≡ false))
        → ((find p xs ≡ None) × PassesNowhere p xs)
        ⊎ ((r : ℕ) × (find p xs ≡ Some r) × IsFirst p xs r)
        → ((find p (x ∷ xs) ≡ None) × PassesNowhere p (x ∷ xs))
        ⊎ ((r : ℕ) × (find p (x ∷ xs) ≡ Some r) × IsFirst p (x ∷ xs) r)
    by (inl met) onward = inr (
      x,
      step true met,
      record {
        place = 0;
        within = omega arith;
        is = refl;
        passes = met;
        before = λ k h. absurd (omega arith);
      },
    )
    by (inr unmet) (inl t) = inl (step false unmet ∙ t.0, fails_first x xs unmet t.1)
    by (inr unmet) (inr t) = inr (t.0, step false unmet ∙ t.1, sooner x t.0 xs unmet t.2)

  clash : {A : Type 0} (xs : List ℕ) (k r : ℕ) → get_or xs k 0 ≡ r → p r ≡ true
      → p (get_or xs k 0) ≡ false → A
  clash xs k r is met unmet = let e : p (get_or xs k 0) ≡ p r = ap p is in absurd (cc)

  pub no_last : (xs : List ℕ) → PassesNowhere p xs → last_or None (filter p xs) ≡ None
  no_last xs none = by (last_cases None xs) where
    by : ((last_or None (filter p xs) ≡ None) × PassesNowhere p xs) ⊎ ((r : ℕ)
        × (last_or None (filter p xs) ≡ Some r) × IsLast p xs r) → last_or None (filter p xs) ≡ None
    by (inl t) = t.0
    by (inr t) = clash xs t.2.place t.0 t.2.is t.2.passes (none.fails t.2.place t.2.within)

  pub no_first : (xs : List ℕ) → PassesNowhere p xs → find p xs ≡ None
  no_first xs none = by (first_cases xs) where
    by : ((find p xs ≡ None) × PassesNowhere p xs)
        ⊎ ((r : ℕ) × (find p xs ≡ Some r) × IsFirst p xs r) → find p xs ≡ None
    by (inl t) = t.0
    by (inr t) = clash xs t.2.place t.0 t.2.is t.2.passes (none.fails t.2.place t.2.within)

  same_last : (xs : List ℕ) (r s : ℕ) → IsLast p xs r → IsLast p xs s → r ≡ s
  same_last xs r s l m = by (cases_order l.place m.place) where
    by : ((l.place ≡ m.place) ⊎ ((l.place < m.place) ⊎ (m.place < l.place))) → r ≡ s
    by (inr (inl h)) = clash xs m.place s m.is m.passes (l.after m.place h m.within)
    by (inl e) = sym l.is ∙ ap (λ k. get_or xs k 0) e ∙ m.is
    by (inr (inr h)) = clash xs l.place r l.is l.passes (m.after l.place h l.within)

  same_first : (xs : List ℕ) (r s : ℕ) → IsFirst p xs r → IsFirst p xs s → r ≡ s
  same_first xs r s l m = by (cases_order l.place m.place) where
    by : ((l.place ≡ m.place) ⊎ ((l.place < m.place) ⊎ (m.place < l.place))) → r ≡ s
    by (inr (inl h)) = clash xs l.place r l.is l.passes (m.before l.place h)
    by (inl e) = sym l.is ∙ ap (λ k. get_or xs k 0) e ∙ m.is
    by (inr (inr h)) = clash xs m.place s m.is m.passes (l.before m.place h)

  pub last_is : (xs : List ℕ) (r : ℕ) → IsLast p xs r → last_or None (filter p xs) ≡ Some r
  last_is xs r l = by (last_cases None xs) where
    by : ((last_or None (filter p xs) ≡ None) × PassesNowhere p xs)
        ⊎ ((s : ℕ) × (last_or None (filter p xs) ≡ Some s) × IsLast p xs s)
        → last_or None (filter p xs) ≡ Some r
    by (inl t) = clash xs l.place r l.is l.passes (t.1.fails l.place l.within)
    by (inr t) = t.1 ∙ ap Some (same_last xs t.0 r t.2 l)

  pub first_is : (xs : List ℕ) (r : ℕ) → IsFirst p xs r → find p xs ≡ Some r
  first_is xs r l = by (first_cases xs) where
    by : ((find p xs ≡ None) × PassesNowhere p xs)
        ⊎ ((s : ℕ) × (find p xs ≡ Some s) × IsFirst p xs s) → find p xs ≡ Some r
    by (inl t) = clash xs l.place r l.is l.passes (t.1.fails l.place l.within)
    by (inr t) = t.1 ∙ ap Some (same_first xs t.0 r t.2 l)
