-- Sets of platforms that may be behind a record. The entries of a record stand newest first here.
use Rattle.std.specs.Prelude.{◌≡◌, ◌⊎◌, ℕ, ◌<◌, List, [], ◌∷◌, ◌++◌}
use Rattle.std.specs.List.{All}
use Rattle.scmi_plan.specs.Board.{Board}
use Rattle.scmi_core.specs.Legal.{IsLegal}
use Rattle.scmi_judge.specs.Behind.{Behind, Fits}
use Rattle.scmi_judge.specs.Guess.{CanCome, CanShow, IsAmong, IsGuess, IsReal}
use Rattle.scmi_judge.specs.Moves.{Move, history}
use Rattle.scmi_judge.specs.Unseen.{IsOf, step_of}
use Rattle.scmi_judge.specs.declared.entry.Entry.{Entry}
use Rattle.scmi_judge.specs.declared.guess.Guess.{Guess}
use Rattle.scmi_judge.specs.declared.unseen.Act.{Act}
use Rattle.scmi_judge.specs.declared.unseen.Step.{Step}
use Rattle.scmi_judge.specs.declared.unseen.Unseen.{Unseen}

-- guesses grew by others that are as real as this one
pub record HaveGrown (may : Unseen) (g : Guess) (guesses new : List Guess) : Type 0 where
  pub added : List Guess
  pub are : new ≡ guesses ++ added
  pub real : (board : Board) (entries : List Entry) → IsReal may board entries g
      → All (IsReal may board entries) added

-- what a guess moves on to by a step is among some guesses
abbrev pub IsTried : Unseen → Guess → Step → List Guess → Type 0
IsTried may g step guesses =
    (board : Board) (entries : List Entry) (moves : List Move) (move : Move) → IsOf step move
    → IsGuess may board g entries moves → CanCome may board entries moves move
    → IsAmong may board entries (move ∷ moves) guesses

-- the same of a step of each agent, or each place, with a number above this one
abbrev pub IsTriedAbove : Unseen → Guess → Act → ℕ → List Guess → Type 0
IsTriedAbove may g act number guesses = (n : ℕ) → number < n → IsTried may g (step_of act n) guesses

-- the same of each of all agents and places
abbrev pub AreTriedActs : Unseen → Guess → List Guess → Type 0
AreTriedActs may g guesses = (act : Act) → IsTriedAbove may g act 0 guesses

-- the same of each move
abbrev pub IsTriedWhole : Unseen → Guess → List Guess → Type 0
IsTriedWhole may g guesses =
    (board : Board) (entries : List Entry) (moves : List Move) (move : Move)
    → IsGuess may board g entries moves → CanCome may board entries moves move
    → IsAmong may board entries (move ∷ moves) guesses

-- what these guesses move on to is among them or among others
abbrev pub AreTried : Unseen → List Guess → List Guess → Type 0
AreTried may guesses others =
    (board : Board) (entries : List Entry) (moves : List Move) (move : Move)
    → IsAmong may board entries moves guesses → CanCome may board entries moves move
    → IsAmong may board entries (move ∷ moves) guesses
    ⊎ IsAmong may board entries (move ∷ moves) others

-- each unseen move that may come after one of these guesses leads to one of them
abbrev pub AreClosed : Unseen → List Guess → Type 0
AreClosed may guesses =
    (board : Board) (entries : List Entry) (moves : List Move) (move : Move)
    → IsAmong may board entries moves guesses → CanCome may board entries moves move
    → IsAmong may board entries (move ∷ moves) guesses

-- moves are behind these entries, and none that is unseen comes after the last of them
abbrev pub EndsShown : Unseen → Board → List Entry → List Move → Type 0
EndsShown may board [] moves = moves ≡ []
EndsShown may board (entry ∷ entries) after =
    (moves : List Move) × Behind may board entries moves × Fits may board entries moves entry after

-- these guesses are all the platforms that may be behind these entries, at the last of them
pub record AreExact (may : Unseen) (board : Board) (entries : List Entry)
    (guesses : List Guess) : Type 0 where
  pub real : All (IsReal may board entries) guesses
  pub all : (moves : List Move) → IsLegal board (history moves) → EndsShown may board entries moves
      → IsAmong may board entries moves guesses

-- these guesses have all that some have, and are as real
pub record HaveKept (may : Unseen) (guesses new : List Guess) : Type 0 where
  pub kept : (board : Board) (entries : List Entry) (moves : List Move)
      → IsAmong may board entries moves guesses → IsAmong may board entries moves new
  pub real : (board : Board) (entries : List Entry) → All (IsReal may board entries) guesses
      → All (IsReal may board entries) new

-- these guesses are platforms of a board
abbrev pub IsOfBoard : Board → List Guess → Type 0
IsOfBoard board guesses = All (λ (g : Guess). g.platform.board ≡ board) guesses

-- all that some guesses have is among these or among others
abbrev pub IsKept : Unseen → List Guess → List Guess → List Guess → Type 0
IsKept may guesses all others =
    (board : Board) (entries : List Entry) (moves : List Move)
    → IsAmong may board entries moves guesses
    → IsAmong may board entries moves all ⊎ IsAmong may board entries moves others

-- these guesses are the others after an entry: all those that give it
pub record HaveGiven (may : Unseen) (guesses : List Guess) (entry : Entry)
    (left : List Guess) : Type 0 where
  pub each : (board : Board) (entries : List Entry) (moves after : List Move)
      → IsAmong may board entries moves guesses → CanShow may board entries moves entry after
      → IsAmong may board (entry ∷ entries) after left
  pub real : (board : Board) (entries : List Entry) → All (IsReal may board entries) guesses
      → All (IsReal may board (entry ∷ entries)) left

-- the same, of those that have been tried
pub record AreGiven (may : Unseen) (guesses : List Guess) (entry : Entry)
    (left untried : List Guess) : Type 0 where
  pub each : (board : Board) (entries : List Entry) (moves after : List Move)
      → IsAmong may board entries moves guesses → CanShow may board entries moves entry after
      → IsAmong may board (entry ∷ entries) after left ⊎ IsAmong may board entries moves untried
  pub real : (board : Board) (entries : List Entry) → All (IsReal may board entries) guesses
      → All (IsReal may board (entry ∷ entries)) left × All (IsReal may board entries) untried
