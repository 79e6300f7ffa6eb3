-- The bytes of items, one item after another.
use Rattle.std.proofs.Common.{◌≡◌, ◌==◌, ◌&&◌, ℕ, ◌+◌, ◌<◌, Bool, true, false, if◌then◌else◌, List, [], ◌∷◌, ◌++◌, length, get_or, take, drop, map, reverse, Option, None, Some, sym, ◌∙◌, ap, refl}
use Rattle.std.specs.Str.{bytes_eq}
use Rattle.std.proofs.lemmas.List as list
use Rattle.scmi_decode.specs.declared.cell.Cell.{Cell}
use Rattle.scmi_decode.specs.Cell.{are_alike, byte_in, bytes_in, bytes_of_order}
use Rattle.scmi_decode.specs.Dump.{Adds, item_bytes, items_bytes, both_bytes}
use Rattle.scmi_decode.specs.MessageLine.{ordered_bytes}
use Rattle.scmi_decode.specs.declared.order.Order.{Order}
use Rattle.scmi_decode.specs.declared.order.Order.TheVariants.{Straight, Turned, Unclear}

joined_nothing : (o : Option (List ℕ)) → both_bytes o (Some []) ≡ both_bytes (Some []) o
joined_nothing None = refl
joined_nothing (Some a) = ap Some (list.append-nil a)

joined_in_turn : (a b c : Option (List ℕ))
    → both_bytes a (both_bytes b c) ≡ both_bytes (both_bytes a b) c
joined_in_turn None b c = refl
joined_in_turn (Some a) None c = refl
joined_in_turn (Some a) (Some b) None = refl
joined_in_turn (Some a) (Some b) (Some c) = ap Some (sym (list.append_assoc a b c))

items_one_more : (t : Bool) (xs : List (List ℕ)) (x : List ℕ)
    → items_bytes t (xs ++ x ∷ []) ≡ both_bytes (items_bytes t xs) (item_bytes t x)
items_one_more t [] x = joined_nothing (item_bytes t x)
items_one_more t (y ∷ ys) x = ap (both_bytes (item_bytes t y)) (items_one_more t ys x)
    ∙ joined_in_turn (item_bytes t y) (items_bytes t ys) (item_bytes t x)

joined_none : (o : Option (List ℕ)) → both_bytes o None ≡ None
joined_none None = refl
joined_none (Some a) = refl

items_bad : (t : Bool) (xs : List (List ℕ)) (x : List ℕ) (ys : List (List ℕ))
    → item_bytes t x ≡ None → items_bytes t (xs ++ x ∷ ys) ≡ None
items_bad t [] x ys bad = ap (λ o. both_bytes o (items_bytes t ys)) bad
items_bad t (y ∷ more) x ys bad = ap (both_bytes (item_bytes t y)) (items_bad t more x ys bad)
    ∙ joined_none (item_bytes t y)

-- nothing was added only of an item that has no bytes
adds_none : (o : Option (List ℕ)) (added : Bool) (old new : List ℕ) → Adds o added old new
    → added ≡ false → o ≡ None
adds_none None added old new adds none = refl
adds_none (Some bytes) added old new adds none = cc

-- what was added are the bytes of the item
adds_some : (o : Option (List ℕ)) (added : Bool) (old new : List ℕ) → Adds o added old new
    → added ≡ true → both_bytes (Some old) o ≡ Some new
adds_some None added old new adds some = absurd (cc)
adds_some (Some bytes) added old new adds some = ap Some (sym adds.1)

-- one more item, which has bytes
pub more : {X : Type 0} (t : Bool) (f : X → List ℕ) (xs : List X) (i : ℕ) (d : X) (added : Bool)
    (old new : List ℕ) → i < length xs → Adds (item_bytes t (f (get_or xs i d))) added old new
    → added ≡ true → items_bytes t (map f (take i xs)) ≡ Some old
    → items_bytes t (map f (take (i + 1) xs)) ≡ Some new
more t f xs i d added old new inside adds some so_far =
    let x = f (get_or xs i d) in
    ap (items_bytes t) (list.map_more f xs i d inside)
    ∙ items_one_more t (map f (take i xs)) x ∙ ap (λ o. both_bytes o (item_bytes t x)) so_far
    ∙ adds_some (item_bytes t x) added old new adds some

-- items have no bytes if one of them has none
pub stop : {X : Type 0} (t : Bool) (f : X → List ℕ) (xs : List X) (i : ℕ) (d : X) (added : Bool)
    (old new : List ℕ) → i < length xs → Adds (item_bytes t (f (get_or xs i d))) added old new
    → added ≡ false → items_bytes t (map f xs) ≡ None
stop t f xs i d added old new inside adds none =
    let x = f (get_or xs i d) in
    let cut = ap (λ ys. take i xs ++ ys) (list.drop_more xs i d inside) in
    let parts : map f xs ≡ map f (take i xs) ++ (x ∷ map f (drop (i + 1) xs)) =
    ap (map f) (sym (list.take-append-drop i xs) ∙ cut)
    ∙ list.map-append f (take i xs) (get_or xs i d ∷ drop (i + 1) xs) in
    ap (items_bytes t) parts ∙ items_bad t (map f (take i xs)) x (map f (drop (i + 1) xs))
    (adds_none (item_bytes t x) added old new adds none)

-- one more cell, by its byte in one order
pub cell_more : (t : Bool) (old new : List Cell) (c : Cell) (first bytes : List ℕ) (i : ℕ)
    → i < length bytes → new ≡ old ++ c ∷ [] → byte_in t c ≡ get_or bytes i 0
    → bytes_in t old ≡ first ++ take i bytes → bytes_in t new ≡ first ++ take (i + 1) bytes
cell_more t old new c first bytes i more pushed here so_far =
    rw (
      pushed,
      list.map-append (byte_in t) old (c ∷ []),
      so_far,
      list.take_more bytes i 0 more,
      list.append_assoc first (take i bytes) (byte_in t c ∷ []),
      here,
    ) refl

-- cells whose bytes are the same in either order
alike-cells : (cells : List Cell)
    → bytes_eq (bytes_in false cells) (bytes_in true cells) ≡ are_alike cells
alike-cells [] = refl
alike-cells (c ∷ cs) = ap (λ b. (c.straight == c.turned) && b) (alike-cells cs)

-- the bytes of items in an order are those of their cells, and none if they have no cells
pub ordered-cells : (o : Order) (cells : List Cell) → ordered_bytes o (Some (bytes_in false cells))
    (Some (bytes_in true cells)) ≡ bytes_of_order o cells
ordered-cells Straight cells = refl
ordered-cells Turned cells = refl
ordered-cells Unclear cells =
    ap (λ b. if b then Some (bytes_in false cells) else None) (alike-cells cells)

-- turned twice, bytes are as they were
pub reversed_twice : (bytes : List ℕ) → reverse (reverse bytes) ≡ bytes
reversed_twice bytes = list.reverse-reverse bytes
