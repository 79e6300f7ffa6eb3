-- One more item of a list.
use Rattle.std.proofs.Common.{◌≡◌, ℕ, zero, suc, ◌+◌, ◌<◌, Bool, true, false, ◌||◌, List, [], ◌∷◌, length, take, get_or, refl, sym, ap, ◌∙◌, arith}
use Rattle.std.specs.List.{list_any}

or_swap : (a b c : Bool) → (a || (b || c)) ≡ (b || (a || c))
or_swap true true c = refl
or_swap true false c = refl
or_swap false true c = refl
or_swap false false c = refl

any_of-take : {X : Type 0} (p : X → Bool) (i : ℕ) (xs : List X) (x : X) → i < length xs
    → x ≡ get_or xs i x → list_any p (take (suc i) xs) ≡ (p x || list_any p (take i xs))
any_of-take p i [] x h is = elim h [ ]
any_of-take p zero (y ∷ ys) x h is = ap (λ z. p z || false) (sym is)
any_of-take p (suc i) (y ∷ ys) x h is = ap (λ b. p y || b) (any_of-take p i ys x (omega arith) is)
    ∙ or_swap (p y) (p x) (list_any p (take i ys))

pub any-more : {X : Type 0} (p : X → Bool) (i : ℕ) (xs : List X) (x : X) → i < length xs
    → x ≡ get_or xs i x → list_any p (take (i + 1) xs) ≡ (p x || list_any p (take i xs))
any-more p i xs x h is =
    let next : i + 1 ≡ suc i = omega arith in
    ap (λ n. list_any p (take n xs)) next ∙ any_of-take p i xs x h is
