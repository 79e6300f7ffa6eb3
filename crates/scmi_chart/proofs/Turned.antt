-- A list whose first elements were replaced, each by one of which f says what it was.
use Rattle.std.proofs.Common.{◌≡◌, ℕ, ◌+◌, ◌<◌, ◌≤◌, List, [], ◌∷◌, ◌++◌, map, take, get_or, length, refl, ap, sym, ◌∙◌, arith}
use Rattle.std.proofs.Math.ListN.{set}
use Rattle.std.proofs.lemmas.List.{get_or-set_other, map_push, take_all, take_more, take_more_set}

module _ {X S : Type 0} (sign : X → S) (f : S → S) where
  -- the first elements were replaced, and the others are as they were
  pub record Turned (i : ℕ) (new old : List X) : Type 0 where
    pub first : map sign (take i new) ≡ map f (map sign (take i old))
    pub rest : (j : ℕ) (d : X) → i ≤ j → get_or new j d ≡ get_or old j d

  pub turned_none : (xs : List X) → Turned 0 xs xs
  turned_none xs = record { first = refl; rest = λ j d from. refl }

  pub turned_more : (i : ℕ) (new old : List X) (x y : X) → i < length new → i < length old
      → sign y ≡ f (sign (get_or new i x)) → Turned i new old → Turned (i + 1) (set new i y) old
  turned_more i new old x y below below_old replaced so_far =
      let turned : List S = map f (map sign (take i old)) in
      let was : sign y ≡ f (sign (get_or old i x)) = replaced
      ∙ ap (λ z. f (sign z)) (so_far.rest i x (omega arith)) in
      record {
        first =
            ap (map sign) (take_more_set new i y below) ∙ map_push sign (take i new) y
            ∙ ap (λ ss. ss ++ sign y ∷ []) so_far.first ∙ ap (λ s. turned ++ s ∷ []) was
            ∙ sym (ap (map f) (ap (map sign) (take_more old i x below_old)
            ∙ map_push sign (take i old) (get_or old i x))
            ∙ map_push f (map sign (take i old)) (sign (get_or old i x)));
        rest = λ j d from. get_or-set_other new i j y d (λ same. absurd (omega (arith, same, from)))
            ∙ so_far.rest j d (omega (arith, from));
      }

  pub turned_all : (i : ℕ) (new old : List X) → length new ≤ i → length old ≤ i → Turned i new old
      → map sign new ≡ map f (map sign old)
  turned_all i new old all all_old so_far =
      sym (ap (map sign) (take_all i new all)) ∙ so_far.first
      ∙ ap (λ xs. map f (map sign xs)) (take_all i old all_old)
