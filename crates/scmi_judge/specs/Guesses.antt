-- Guesses of one board, one beside the other.
use Rattle.std.specs.Prelude.{◌≡◌, ◌≢◌, ◌⊎◌, ℕ, ◌+◌, List, [], ◌∷◌, ◌++◌, length, slice_get, Some}
use Rattle.std.specs.List.{All, AllPairs}
use Rattle.scmi_plan.specs.Board.{Board}
use Rattle.scmi_judge.specs.Exact.{IsOfBoard}
use Rattle.scmi_judge.specs.Guess.{Gives, GivesNot, IsReal}
use Rattle.scmi_judge.specs.declared.entry.Entry.{Entry}
use Rattle.scmi_judge.specs.declared.guess.Guess.{Guess}
use Rattle.scmi_judge.specs.declared.guesses.Guesses.{Guesses}
use Rattle.scmi_judge.specs.declared.unseen.Unseen.{Unseen}

-- all are platforms of this board
pub record AreOfBoard (board : Board) (g : Guesses) : Type 0 where
  pub left : IsOfBoard board g.left.items
  pub tried : IsOfBoard board g.tried.items
  pub others : IsOfBoard board g.others.items
  pub spare : IsOfBoard board g.spare.items
  pub made : g.made.platform.board ≡ board

-- all are platforms of one board
abbrev pub HaveBoard : Guesses → Type 0
HaveBoard g = (board : Board) × AreOfBoard board g

-- they stay platforms of their board, and what may happen unseen stays
pub record KeepBoard (old new : Guesses) : Type 0 where
  pub boards : (board : Board) → AreOfBoard board old → AreOfBoard board new
  pub unseen : new.unseen ≡ old.unseen

-- how many are left or were tried, or are places for more
abbrev pub places : Guesses → ℕ
places g = length g.left.items + length g.tried.items + length g.spare.items

-- the same with the others
abbrev pub all_places : Guesses → ℕ
all_places g = places g + length g.others.items

-- a guess is among some guesses
abbrev pub IsIn : Guess → List Guess → Type 0
IsIn g guesses = (k : ℕ) × (slice_get guesses k ≡ Some g)

-- no two of these guesses are the same
abbrev pub AreDifferent : List Guess → Type 0
AreDifferent guesses = AllPairs (λ g other. g ≢ other) guesses

-- each of these guesses may be behind these entries, and no two are the same: of those that were
-- tried, and of those that are left
pub record AreFound (may : Unseen) (board : Board) (entries : List Entry)
    (tried left : List Guess) : Type 0 where
  pub tried_real : All (IsReal may board entries) tried
  pub left_real : All (IsReal may board entries) left
  pub tried_differ : AreDifferent tried
  pub left_differ : AreDifferent left
  pub none_twice : (g : Guess) → IsIn g tried → ¬ (IsIn g left)

-- they stay so while one of them is tried
abbrev pub StayFound : Unseen → Guess → List Guess → List Guess → List Guess → Type 0
StayFound may g tried left new =
    (board : Board) (entries : List Entry) → AreFound may board entries (tried ++ g ∷ []) left
    → AreFound may board entries (tried ++ g ∷ []) new

-- there are this many different platforms that may be behind these entries
pub record AreMany (may : Unseen) (board : Board) (entries : List Entry) (count : ℕ) : Type 0 where
  pub guesses : List Guess
  pub real : All (IsReal may board entries) guesses
  pub different : AreDifferent guesses
  pub as_many : length guesses ≡ count

-- whatever these guesses are found behind, there are this many
abbrev pub FindsMany : Unseen → List Guess → List Guess → ℕ → Type 0
FindsMany may tried left count = (board : Board) (entries : List Entry)
    → AreFound may board entries tried left → AreMany may board entries count

-- if a guess gives an entry, what it is after that was left, or was left before; or it does not,
-- and the same are left
abbrev pub IsGiven : Unseen → Guess → Entry → List Guess → List Guess → Type 0
IsGiven may g entry left new =
    (GivesNot may g entry × (new ≡ left))
    ⊎ ((made : Guess) × Gives may g entry made
    × ((new ≡ left ++ made ∷ []) ⊎ ((new ≡ left) × IsIn made left)))
