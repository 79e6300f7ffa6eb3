-- The items of a text, one after the other.
use Rattle.std.proofs.Common.{ℕ, zero, suc, ◌<◌, ◌≤◌, ◌≡◌, Bool, true, false, cond, not, eqb, ◌&&◌, List, [], ◌∷◌, length, take, drop, Option, Some, None, Result, Ok, Err, refl, sym, ap, ◌∙◌, ◌≢◌, arith}
use Rattle.std.specs.List.{position_or_len}
use Rattle.std.proofs.lemmas.Bool.{eqb-true, eqb-false}
use Rattle.std.proofs.lemmas.List.{length-drop, length-take}
use Rattle.std.proofs.lemmas.Option.{option_and_then_some, same_Some}
use Rattle.std.specs.Result.{OnOk}
use Rattle.scmi_board.specs.declared.line_error.LineError.{LineError}
use Rattle.scmi_board.specs.declared.line_error.LineError.TheVariants.{Form, Memory}
use Rattle.scmi_board.specs.Items.{◌>>=◌, ItemsView, behind_spaces, first_item, is_space, item_at, items_left, items_up_to, no_item, onto_items}
use Rattle.scmi_board.specs.LineError.{Gives}

abbrev Found : Type 0
Found = Option (List ℕ × List ℕ)

pub item_at-nil : item_at [] ≡ None
unfolding item_at
item_at-nil = refl

guard_some : {X : Type 0} (b : Bool) (o : Option X) (y : X) → cond b None o ≡ Some y
    → (b ≡ false) × (o ≡ Some y)
guard_some true o y is = absurd cc
guard_some false o y is = (refl, is)

spaces_shorten : (text rest : List ℕ) → behind_spaces text ≡ Some rest → length rest ≤ length text
unfolding behind_spaces
spaces_shorten text rest is =
    let k = position_or_len (λ byte. not (is_space byte)) text in
    let some = guard_some (eqb (length (drop k text)) 0 && not (eqb (length text) 0))
    (Some (drop k text)) rest is in
    let same : drop k text ≡ rest = same_Some (drop k text) rest some.1 in
    omega (arith, ap length same, length-drop k text)

-- what is left behind an item is shorter
item_shortens : (text : List ℕ) (found : List ℕ × List ℕ) → item_at text ≡ Some found
    → length found.1 < length text
unfolding item_at
item_shortens text found is =
    let k = position_or_len is_space text in
    let some = guard_some (eqb (length (take k text)) 0)
    (behind_spaces (drop k text) >>= λ rest. Some (take k text, rest)) found is in
    option_and_then_some (λ rest. Some (take k text, rest))
    (behind_spaces (drop k text)) found some.1 (λ rest there. λ same.
    let shorter = spaces_shorten (drop k text) rest there in
    let rest-is : length rest ≡ length found.1 =
    ap (λ (p : List ℕ × List ℕ). length p.1) (same_Some (take k text, rest) found same) in
    let front = eqb-false (length (take k text)) 0 some.0 in
    let whole : length (take k text) ≢ 0 = front in
    omega (arith, whole, shorter, rest-is, length-take k text, length-drop k text))

abbrev items_from : ℕ → List ℕ → Found → ItemsView
items_from most text found = elim found [
  | None ↦ record { items = []; whole = eqb (length text) 0 }
  | Some found ↦ onto_items found.0 (items_up_to most found.1)
]

up_to_more : (most : ℕ) (text : List ℕ)
    → items_up_to (suc most) text ≡ items_from most text (item_at text)
unfolding items_up_to
up_to_more most text = refl

up_to_none : (text : List ℕ)
    → items_up_to zero text ≡ record { items = []; whole = eqb (length text) 0 }
unfolding items_up_to
up_to_none text = refl

up_to_nil : (most : ℕ) → items_up_to most [] ≡ record { items = []; whole = true }
up_to_nil zero = up_to_none []
up_to_nil (suc most) = up_to_more most [] ∙ ap (items_from most []) item_at-nil

-- a bound that is large enough does not matter
bound_goes_on : (m n : ℕ) (text : List ℕ) (found : Found) → ((rest : List ℕ) → length rest ≤ m
    → length rest ≤ n → items_up_to m rest ≡ items_up_to n rest) → item_at text ≡ found
    → length text ≤ suc m → length text ≤ suc n → items_from m text found ≡ items_from n text found
bound_goes_on m n text None others is a b = refl
bound_goes_on m n text (Some found) others is a b =
    let shorter = item_shortens text found is in
    ap (onto_items found.0) (others found.1 (omega (arith, shorter, a)) (omega (arith, shorter, b)))

bound_is_free : (m n : ℕ) (text : List ℕ) → length text ≤ m → length text ≤ n
    → items_up_to m text ≡ items_up_to n text
bound_is_free m n [] a b = up_to_nil m ∙ sym (up_to_nil n)
bound_is_free zero n (byte ∷ rest) a b = absurd (omega (arith, a))
bound_is_free (suc m) zero (byte ∷ rest) a b = absurd (omega (arith, b))
bound_is_free (suc m) (suc n) (byte ∷ rest) a b = up_to_more m (byte ∷ rest)
    ∙ bound_goes_on m n (byte ∷ rest) (item_at (byte ∷ rest)) (bound_is_free m n) refl a b
    ∙ sym (up_to_more n (byte ∷ rest))

-- behind the first item stand the items of what is left
pub items_of_found : (text item rest : List ℕ) → item_at text ≡ Some (item, rest)
    → items_left text ≡ onto_items item (items_left rest)
items_of_found [] item rest is = absurd (let none = item_at-nil in cc)
items_of_found (byte ∷ more) item rest is =
    let shorter = item_shortens (byte ∷ more) (item, rest) is in
    up_to_more (length more) (byte ∷ more) ∙ ap (items_from (length more) (byte ∷ more)) is
    ∙ ap (onto_items item)
    (bound_is_free (length more) (length rest) rest (omega (arith, shorter)) (omega arith))

pub items_of_none : (text : List ℕ) → item_at text ≡ None
    → items_left text ≡ record { items = []; whole = eqb (length text) 0 }
items_of_none [] is = up_to_nil 0
items_of_none (byte ∷ more) is = up_to_more (length more) (byte ∷ more)
    ∙ ap (items_from (length more) (byte ∷ more)) is

-- a reader of the first item reads the first of the items
pub first_of_items : (slices : Type 0) (bytes : slices → List ℕ) (old new : List ℕ)
    (result : Result slices LineError) → Gives (λ item. (bytes item, new)) result (item_at old)
    → Gives (λ item. (bytes item, items_left new)) result (first_item (items_left old))
first_of_items slices bytes old new (Ok item) is =
    ap first_item (items_of_found old (bytes item) new is)
first_of_items slices bytes old new (Err Form) is = ap first_item (items_of_none old is)
first_of_items slices bytes old new (Err Memory) is = is

-- no item is left where no byte is
pub none_of_nothing : (text : List ℕ) → eqb (length text) 0 ≡ true
    → no_item (items_left text) ≡ Some tt
none_of_nothing [] is = ap no_item (up_to_nil 0)
none_of_nothing (byte ∷ rest) is = absurd (omega (arith, eqb-true (length (byte ∷ rest)) 0 is))

some_of_found : (text : List ℕ) (found : Found) → item_at text ≡ found → eqb (length text) 0 ≡ false
    → no_item (items_left text) ≡ None
some_of_found text None is some = ap no_item (items_of_none text is)
    ∙ ap (λ (b : Bool). cond b (Some tt) None) some
some_of_found text (Some found) is some = ap no_item (items_of_found text found.0 found.1 is)

pub some_of_something : (text : List ℕ) → eqb (length text) 0 ≡ false
    → no_item (items_left text) ≡ None
some_of_something text some = some_of_found text (item_at text) refl some

pub shortened : (slices : Type 0) (bytes : slices → List ℕ) (old new : List ℕ)
    (result : Result slices LineError) → Gives (λ item. (bytes item, new)) result (item_at old)
    → OnOk result (length new < length old)
shortened slices bytes old new (Ok item) is = item_shortens old (bytes item, new) is
shortened slices bytes old new (Err error) is = tt
