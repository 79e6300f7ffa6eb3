-- A list whose first items are mapped, one after another.
use Rattle.std.proofs.Common.{◌≡◌, ◌<◌, ◌++◌, ◌∷◌, ℕ, zero, suc, List, [], length, take, drop, get_or, map, set, refl, ap, arith}

abbrev pub mapped_to : {X : Type 0} → (X → X) → ℕ → List X → List X
mapped_to f i xs = map f (take i xs) ++ drop i xs

-- the next item is as it was
pub mapped-next : {X : Type 0} (f : X → X) (i : ℕ) (xs : List X) (d : X) → i < length xs
    → get_or (mapped_to f i xs) i d ≡ get_or xs i d
mapped-next f zero [] d inside = refl
mapped-next f zero (x ∷ xs) d inside = refl
mapped-next f (suc i) [] d inside = elim inside [ ]
mapped-next f (suc i) (x ∷ xs) d inside = mapped-next f i xs d (omega (arith, inside))

-- once it is mapped one more is
pub mapped-more : {X : Type 0} (f : X → X) (i : ℕ) (xs : List X) (d : X) → i < length xs
    → set (mapped_to f i xs) i (f (get_or xs i d)) ≡ mapped_to f (suc i) xs
mapped-more f zero [] d inside = elim inside [ ]
mapped-more f zero (x ∷ xs) d inside = refl
mapped-more f (suc i) [] d inside = elim inside [ ]
mapped-more f (suc i) (x ∷ xs) d inside =
    ap (λ ys. f x ∷ ys) (mapped-more f i xs d (omega (arith, inside)))
