-- The one line that counts.
use Rattle.std.proofs.Common.{◌≡◌, ℕ, ◌+◌, ◌<◌, Bool, true, List, ◌∷◌, ◌++◌, length, get_or, take, drop, Option, None, Some, filter, option_to_list, is_some, option_map, sym, ◌∙◌, ap, refl}
use Rattle.std.proofs.lemmas.List as list
use Rattle.std.proofs.lemmas.List.Elements.{filter-append}
use Rattle.scmi_modes.specs.Lines.{only}

filter_cut : {X : Type 0} (p : X → Bool) (xs : List X) (n : ℕ) (d : X)
    → n < length xs → p (get_or xs n d) ≡ true
    → filter p xs ≡ filter p (take n xs) ++ (get_or xs n d ∷ filter p (drop (n + 1) xs))
filter_cut p xs n d more passes =
    let cut = list.drop_more xs n d more in
    ap (filter p) (sym (list.take-append-drop n xs)) ∙ (filter-append p (take n xs) (drop n xs)
    ∙ ap (λ ys. filter p (take n xs) ++ ys) (ap (filter p) cut ∙ rw passes refl))

only_one : {X : Type 0} (o : Option X) → only (option_to_list o) ≡ o
only_one None = refl
only_one (Some x) = refl

pub is_only : {X : Type 0} (o : Option X) (xs : List X) → option_to_list o ≡ xs → o ≡ only xs
is_only o xs e = sym (only_one o) ∙ ap only e

not_only : {X : Type 0} (o : Option X) (y : X) (ys : List X) → is_some o ≡ true
    → only (option_to_list o ++ y ∷ ys) ≡ None
not_only None y ys some = absurd cc
not_only (Some x) y ys some = refl

pub is_second : {X : Type 0} (p : X → Bool) (xs : List X) (n : ℕ) (o : Option X) (x : X)
    → n < length xs → x ≡ get_or xs n x → p x ≡ true → option_to_list o ≡ filter p (take n xs)
    → is_some o ≡ true → None ≡ only (filter p xs)
is_second p xs n o x more at passes so_far some =
    let here : p (get_or xs n x) ≡ true = ap p (sym at) ∙ passes in
    let cut = filter_cut p xs n x more here in
    sym (ap only (cut ∙ ap (λ zs. zs ++ (get_or xs n x ∷ filter p (drop (n + 1) xs))) (sym so_far))
    ∙ not_only o _ _ some)

pub some_mapped : {X Y : Type 0} (f : X → Y) (o : Option X) → true ≡ is_some o
    → is_some (option_map f o) ≡ true
some_mapped f None some = absurd cc
some_mapped f (Some x) some = refl
