-- Lists that one function makes of two others.
use Rattle.std.proofs.Common.{◌≡◌, ℕ, zero, suc, ◌+◌, ◌<◌, List, [], ◌∷◌, ◌++◌, length, map, get_or, set, replicate, arith, refl, ap, ap₂, sym, ◌∙◌, drop}
use Rattle.std.specs.List.{AllZip}
use Rattle.std.proofs.lemmas.List.{map-append, replicate_more}

-- a function over a list with one item set
pub map_at_set : {D N : Type 0} (f : D → N) (ds : List D) (i : ℕ) (d : D)
    → map f (set ds i d) ≡ set (map f ds) i (f d)
map_at_set f [] i d = refl
map_at_set f (x ∷ ds) zero d = refl
map_at_set f (x ∷ ds) (suc i) d = ap (λ zs. f x ∷ zs) (map_at_set f ds i d)

-- a place is given another item that shows the same
pub map_same : {D N : Type 0} (f : D → N) (ds : List D) (i : ℕ) (x d : D) → i < length ds
    → x ≡ get_or ds i x → f d ≡ f x → map f (set ds i d) ≡ map f ds
map_same f [] i x d lt is e = refl
map_same f (y ∷ ds) zero x d lt is e = ap (λ z. z ∷ map f ds) (e ∙ ap f is)
map_same f (y ∷ ds) (suc i) x d lt is e =
    ap (λ zs. f y ∷ zs) (map_same f ds i x d (omega arith) is e)

-- lists with the same images have them at each place
pub at_place : {D L N : Type 0} (f : D → N) (g : L → N) (ds : List D) (ls : List L) (i : ℕ) (x : D)
    (l : L) → map f ds ≡ map g ls → i < length ds → f (get_or ds i x) ≡ g (get_or ls i l)
at_place f g [] ls i x l e lt = absurd (omega arith)
at_place f g (d ∷ ds) [] i x l e lt = absurd (omega (arith, ap length e))
at_place f g (d ∷ ds) (k ∷ ls) zero x l e lt = ap (λ zs. get_or zs 0 (f d)) e
at_place f g (d ∷ ds) (k ∷ ls) (suc i) x l e lt =
    at_place f g ds ls i x l (ap (drop 1) e) (omega arith)

-- the same, of the item that is there
pub name_at : {D L N : Type 0} (f : D → N) (g : L → N) (ds : List D) (ls : List L) (i : ℕ) (x : D)
    (l : L) → map f ds ≡ map g ls → i < length ds → x ≡ get_or ds i x → f x ≡ g (get_or ls i l)
name_at f g ds ls i x l e lt is = ap f is ∙ at_place f g ds ls i x l e lt

-- one more with the same image
pub maps_push : {D L N : Type 0} (f : D → N) (g : L → N) (ds : List D) (ls : List L) (d : D) (l : L)
    → map f ds ≡ map g ls → f d ≡ g l → map f (ds ++ d ∷ []) ≡ map g (ls ++ l ∷ [])
maps_push f g ds ls d l e h = map-append f ds (d ∷ []) ∙ ap₂ (λ xs y. xs ++ y ∷ []) e h
    ∙ sym (map-append g ls (l ∷ []))

-- one more of the same image
pub new_push : {D N : Type 0} (f : D → N) (ds : List D) (n : ℕ) (d : D) (v : N)
    → map f ds ≡ replicate n v → f d ≡ v → map f (ds ++ d ∷ []) ≡ replicate (n + 1) v
new_push f ds n d v e h = map-append f ds (d ∷ []) ∙ ap₂ (λ xs y. xs ++ y ∷ []) e h
    ∙ replicate_more n v

-- one more of the same
pub same_push : {V : Type 0} (vs : List V) (n : ℕ) (v : V) → vs ≡ replicate n v
    → vs ++ v ∷ [] ≡ replicate (n + 1) v
same_push vs n v e = ap (λ xs. xs ++ v ∷ []) e ∙ replicate_more n v

-- lists with the same images, item by item
pub zip_of_maps : {D L N : Type 0} (f : D → N) (g : L → N) (ds : List D) (ls : List L)
    → map f ds ≡ map g ls → AllZip (λ l d. f d ≡ g l) ls ds
zip_of_maps f g [] [] e = tt
zip_of_maps f g [] (l ∷ ls) e = absurd (omega (arith, ap length e))
zip_of_maps f g (d ∷ ds) [] e = absurd (omega (arith, ap length e))
zip_of_maps f g (d ∷ ds) (l ∷ ls) e =
    (ap (λ zs. get_or zs 0 (f d)) e, zip_of_maps f g ds ls (ap (drop 1) e))

-- two facts of each pair make a third
pub zip_both : {D L : Type 0} (P Q R : L → D → Type 0) → ((l : L) (d : D) → P l d → Q l d → R l d)
    → (ls : List L) (ds : List D) → AllZip P ls ds → AllZip Q ls ds → AllZip R ls ds
zip_both P Q R r [] [] p q = tt
zip_both P Q R r [] (d ∷ ds) p q = absurd p
zip_both P Q R r (l ∷ ls) [] p q = absurd p
zip_both P Q R r (l ∷ ls) (d ∷ ds) p q = (r l d p.0 q.0, zip_both P Q R r ls ds p.1 q.1)
