-- Where the first hole of a text is.
use Rattle.std.proofs.Common.{◌≡◌, ℕ, ◌≤◌, Bool, true, false, cond, ltb, List, length, Option, Some, None, ap, refl, rules, tests, unwrap_or}
use Rattle.std.specs.List.{position_or_len}

-- the place that a search gives, of a list's first element that passes
abbrev pub place_found : {X : Type 0} → (X → Bool) → List X → Option ℕ
place_found test xs =
    cond (ltb (position_or_len test xs) (length xs)) (Some (position_or_len test xs)) None

some_is : (is_there : Bool) (here place : ℕ) → cond is_there (Some here) None ≡ Some place
    → here ≡ place
some_is true here place e = ap (λ found. unwrap_or found 0) e
some_is false here place e = search (rules, e)

none_is : (is_there : Bool) (here : ℕ) → cond is_there (Some here) None ≡ None → is_there ≡ false
none_is true here e = search (rules, e)
none_is false here e = refl

-- it is where the list is split
pub found_at : {X : Type 0} (test : X → Bool) (xs : List X) (place : ℕ)
    → place_found test xs ≡ Some place → position_or_len test xs ≡ place
found_at test xs place e = some_is _ _ _ e

-- without it the split leaves the whole list before it, and nothing after it
pub all_before : {X : Type 0} (test : X → Bool) (xs : List X) → place_found test xs ≡ None
    → length xs ≤ position_or_len test xs
all_before test xs e =
    let none : ltb (position_or_len test xs) (length xs) ≡ false = none_is _ _ e in
    search (rules, tests, none)
