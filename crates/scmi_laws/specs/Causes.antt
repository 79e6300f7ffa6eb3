-- Each change of a history has a command or a report of its own.
use Rattle.std.specs.Prelude.{◌≡◌, ◌≢◌, ◌⊎◌, ℕ, List, length}
use Rattle.std.specs.List.{AllPairs, AllZip}
use Rattle.scmi_plan.specs.Board.{Board}
use Rattle.scmi_core.specs.declared.event.Event.{Event}
use Rattle.scmi_core.specs.History.{deeds}
use Rattle.scmi_core.specs.Laws.{HasCause, IsReported}
use Rattle.scmi_core.specs.Value.{Change, changes}

-- a change came of the command at this place of a history, counted from 0
pub record CameOfCommand (board : Board) (h : List Event)
    (place : ℕ) (change : Change) : Type 0 where
  pub cause : HasCause board h change
  pub place_is : length cause.before ≡ place

-- the hardware reported a change at this place of a history, counted from 0
pub record CameOfReport (board : Board) (h : List Event)
    (place : ℕ) (change : Change) : Type 0 where
  pub report : IsReported board h change
  pub place_is : length report.before ≡ place

-- a change came of the event at this place of a history: of a command, or of a report
abbrev pub CameOf : Board → List Event → ℕ → Change → Type 0
CameOf board h place change = CameOfCommand board h place change ⊎ CameOfReport board h place change

-- the changes of a history came of commands and reports at these places, one place a change, and no
-- two of them are the same
pub record HasOwnCauses (board : Board) (h : List Event) : Type 0 where
  pub places : List ℕ
  pub causes : AllZip (CameOf board h) places (changes board (deeds board h))
  pub differ : AllPairs (λ n m. n ≢ m) places
