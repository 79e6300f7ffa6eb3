-- The items of a line.
use Rattle.std.specs.Prelude.{ℕ, ◌==◌, ◌&&◌, zero, suc, Bool, not, if◌then◌else◌, List, [], ◌∷◌, length, drop, Option, Some, None}
use Rattle.std.specs.List.{before_first, position_or_len}
use Rattle.std.specs.Option.{option_and_then}
use Rattle.scmi_board.specs.Number.{number_of}

infixl 10 ◌>>=◌
-- a value that may be missing, handed on
abbrev pub ◌>>=◌ : {A B : Type 0} → Option A → (A → Option B) → Option B
o >>= f = option_and_then f o

-- whether a byte is a space
abbrev pub is_space : ℕ → Bool
is_space byte = byte == 32

-- what follows the spaces that a text begins with; none if only spaces are left
unfoldable pub behind_spaces : List ℕ → Option (List ℕ)
behind_spaces text =
    let rest = drop (position_or_len (λ byte. not (is_space byte)) text) text in
    if (length rest == 0) && not (length text == 0) then None else Some rest

-- the first item of a text, and what is left after it and its spaces; none where the text is empty,
-- a space is first, or only spaces follow the item
unfoldable pub item_at : List ℕ → Option (List ℕ × List ℕ)
item_at text =
    let item = before_first is_space text in
    if length item == 0 then None else (do
      rest ← behind_spaces (drop (position_or_len is_space text) text)
      Some (item, rest))

-- the items of a text up to the first fault in its spaces, and whether there is none
pub record ItemsView : Type 0 where
  pub items : List (List ℕ)
  pub whole : Bool

-- an item before those of a view
abbrev pub onto_items : List ℕ → ItemsView → ItemsView
onto_items item view = record { items = item ∷ view.items; whole = view.whole }

-- this many items at most
unfoldable pub items_up_to : ℕ → List ℕ → ItemsView
items_up_to zero text = record { items = []; whole = length text == 0 }
items_up_to (suc most) text = elim (item_at text) [
  | None ↦ record { items = []; whole = length text == 0 }
  | Some found ↦ onto_items found.0 (items_up_to most found.1)
]

-- a text has no more items than bytes
abbrev pub items_left : List ℕ → ItemsView
items_left text = items_up_to (length text) text

-- the items of a text, where its spaces have no fault
abbrev pub items_of : List ℕ → Option (List (List ℕ))
items_of text = let view = items_left text in if view.whole then Some view.items else None

-- the first of the items that are left, and the others
abbrev pub first_item : ItemsView → Option (List ℕ × ItemsView)
first_item view = elim view.items
    [ [] ↦ None | item ∷ items ↦ Some (item, record { items = items; whole = view.whole }) ]

-- nothing where no item is left, and none where one is
abbrev pub no_item : ItemsView → Option (Unit {0})
no_item view = elim view.items [ [] ↦ if view.whole then Some tt else None | item ∷ items ↦ None ]

-- the first item as a number of at most that many bits
unfoldable pub first_number : ℕ → ItemsView → Option (ℕ × ItemsView)
first_number bits view = do
  item ← first_item view
  number ← number_of bits item.0
  Some (number, item.1)
