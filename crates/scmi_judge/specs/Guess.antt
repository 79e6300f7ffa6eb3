-- The platforms that may be behind a record. The entries of a record stand newest first here.
use Rattle.std.specs.Prelude.{◌≡◌, ⊤, ℕ, ◌-◌, List, ◌∷◌, ◌++◌, length, get_or, slice_get, Option, Some, None}
use Rattle.std.specs.Option.{option_to_list}
use Rattle.scmi_plan.specs.Agent.{IsAgent}
use Rattle.scmi_plan.specs.Board.{Board}
use Rattle.scmi_codec.specs.declared.message.Message.{Message}
use Rattle.scmi_core.specs.History.{delivered_messages}
use Rattle.scmi_core.specs.Legal.{CanFollow, IsLegal}
use Rattle.scmi_core.specs.Standing.{StandsAfter}
use Rattle.scmi_judge.specs.Behind.{Behind, Fits, IsUnseen, taken_by}
use Rattle.scmi_judge.specs.Moves.{Move, history, outstanding_at}
use Rattle.scmi_judge.specs.Unseen.{IsOf}
use Rattle.scmi_judge.specs.declared.entry.Entry.{Entry}
use Rattle.scmi_judge.specs.declared.guess.Guess.{Guess}
use Rattle.scmi_judge.specs.declared.outstanding.Outstanding.{Outstanding}
use Rattle.scmi_judge.specs.declared.outstanding.TheConstants.{OUTSTANDING}
use Rattle.scmi_judge.specs.declared.unseen.Step.{Step}
use Rattle.scmi_judge.specs.declared.unseen.Unseen.{Unseen}

-- the message in the channel to agent a
abbrev pub posted_to : Guess → ℕ → Option Message
posted_to g a = get_or g.posted (a - 1) None

-- the command that a guess has at a place
abbrev pub command_at : Guess → ℕ → Option Outstanding
command_at g k = get_or g.outstanding k None

-- a guess is the platform of a board as these moves leave it, which are behind these entries
pub record IsGuess (may : Unseen) (board : Board) (g : Guess) (entries : List Entry)
    (moves : List Move) : Type 0 where
  pub of_board : g.platform.board ≡ board
  pub behind : Behind may board entries moves
  pub stands : StandsAfter g.platform (history moves)
  pub channels : (a : ℕ) → IsAgent (length board.agents) a
      → delivered_messages board a (history moves) ≡ taken_by a entries
      ++ option_to_list (posted_to g a)
  pub commands : (k : ℕ) → command_at g k ≡ outstanding_at k moves
  pub places : length g.outstanding ≡ OUTSTANDING

-- the event of a move, if it has one, may come after others
abbrev pub CanMove : Board → List Move → Move → Type 0
CanMove board moves (Move.happens event) = CanFollow board (history moves) event
CanMove board moves (Move.executes k event answer) = CanFollow board (history moves) event
CanMove board moves (Move.asks k a frame) = ⊤
CanMove board moves (Move.frees k) = ⊤

-- an unseen move may come after those that are behind these entries
pub record CanCome (may : Unseen) (board : Board) (entries : List Entry) (moves : List Move)
    (move : Move) : Type 0 where
  pub unseen : IsUnseen may board entries moves move
  pub follows : CanMove board moves move

-- a step moves a guess on, whatever it is behind, by each of its moves that may come there
pub record GoesOn (may : Unseen) (g : Guess) (step : Step) (new : Guess) : Type 0 where
  pub some : (board : Board) (entries : List Entry) (moves : List Move)
      → IsGuess may board g entries moves
      → (move : Move) × IsGuess may board new entries (move ∷ moves)
  pub each : (board : Board) (entries : List Entry) (moves : List Move) (move : Move)
      → IsOf step move → IsGuess may board g entries moves → CanCome may board entries moves move
      → IsGuess may board new entries (move ∷ moves)

-- no move of a step can come after a guess, whatever it is behind
abbrev pub CannotCome : Unseen → Guess → Step → Type 0
CannotCome may g step =
    (board : Board) (entries : List Entry) (moves : List Move) (move : Move) → IsOf step move
    → IsGuess may board g entries moves → ¬ (CanCome may board entries moves move)

-- these moves may be behind an entry after those that are behind the entries before it
pub record CanShow (may : Unseen) (board : Board) (entries : List Entry) (moves : List Move)
    (entry : Entry) (after : List Move) : Type 0 where
  pub fits : Fits may board entries moves entry after
  pub legal : IsLegal board (history after)

-- a guess gives an entry, whatever it is behind, and then it is the new one
pub record Gives (may : Unseen) (g : Guess) (entry : Entry) (new : Guess) : Type 0 where
  pub some : (board : Board) (entries : List Entry) (moves : List Move)
      → IsGuess may board g entries moves
      → (after : List Move) × CanShow may board entries moves entry after
  pub each : (board : Board) (entries : List Entry) (moves after : List Move)
      → IsGuess may board g entries moves → CanShow may board entries moves entry after
      → IsGuess may board new (entry ∷ entries) after

-- a guess does not give an entry, whatever it is behind
abbrev pub GivesNot : Unseen → Guess → Entry → Type 0
GivesNot may g entry =
    (board : Board) (entries : List Entry) (moves after : List Move)
    → IsGuess may board g entries moves → ¬ (CanShow may board entries moves entry after)

-- a guess is the platform of some history behind these entries
abbrev pub IsReal : Unseen → Board → List Entry → Guess → Type 0
IsReal may board entries g = (moves : List Move) × IsGuess may board g entries moves

-- one of these guesses is the platform of these moves behind these entries
abbrev pub IsAmong : Unseen → Board → List Entry → List Move → List Guess → Type 0
IsAmong may board entries moves guesses =
    (k : ℕ) × (g : Guess) × (slice_get guesses k ≡ Some g) × IsGuess may board g entries moves
