-- Hardware that is switched beside a platform.
use Rattle.std.specs.Prelude.{◌≡◌, ◌⊎◌, ℕ, List, [], ◌∷◌, ◌++◌, Option, None, Some, option_map}
use Rattle.std.specs.Option.{option_to_list}
use Rattle.scmi_codec.specs.declared.frame.Frame.{Frame}
use Rattle.scmi_codec.specs.declared.frame.Answer.{Answer}
use Rattle.scmi_plan.specs.Board.{Board}
use Rattle.scmi_core.specs.declared.event.Event.{Event}
use Rattle.scmi_codec.specs.declared.fault.Fault.{Fault}
use Rattle.scmi_core.specs.declared.event.Event.TheVariants.{Command, Advance, CommandFailed, AdvanceFailed}
use Rattle.scmi_core.specs.Asked.{Asked, IsAsked, Made, Refused}
use Rattle.scmi_core.specs.Effect.{effect_after}
use Rattle.scmi_core.specs.History.{answer_of_event, answer_to}
use Rattle.scmi_core.specs.Standing.{MovesOn, Standing, StandsAfter}

-- an event is a command of agent a, done, or failed with some fault
abbrev pub IsCommandOf : ℕ → Frame → Event → Type 0
IsCommandOf a frame event = (event ≡ Command a frame)
    ⊎ ((fault : Fault) × (event ≡ CommandFailed a frame fault))

-- an event ends a pending set, which completes, or failed with some fault
abbrev pub IsEnd : Event → Type 0
IsEnd event = (event ≡ Advance) ⊎ ((fault : Fault) × (event ≡ AdvanceFailed fault))

-- what hardware is asked for at an event after a history, if anything: what a command or an advance
-- changes, which it made, or what one that failed would have changed, which it refused with the
-- fault that the event names; for what it reports it was not asked
abbrev pub ask_after : Board → List Event → Event → Option Asked
ask_after board h (Command a frame) = option_map Made (effect_after board h (Command a frame))
ask_after board h Advance = option_map Made (effect_after board h Advance)
ask_after board h (CommandFailed a frame fault) =
    option_map (λ effect. Refused effect fault) (effect_after board h (Command a frame))
ask_after board h (AdvanceFailed fault) =
    option_map (λ effect. Refused effect fault) (effect_after board h Advance)
ask_after board h _ = None

-- what hardware is asked for at events that come after others, in order
abbrev pub asks_from : Board → List Event → List Event → List Asked
asks_from board before [] = []
asks_from board before (event ∷ after) =
    option_to_list (ask_after board before event) ++ asks_from board (before ++ event ∷ []) after

-- what hardware is asked for in a history, in order
unfoldable pub asks : Board → List Event → List Asked
asks board h = asks_from board [] h

-- one more event of a kind, and the hardware was asked for what belongs to it, and for nothing else
pub record HappensOn (board : Board) (IsOne : Event → Type 0) (h : List Event)
    (asked : List Asked → Type 0) (h' : List Event) (asked' : List Asked → Type 0) : Type 0 where
  pub event : Event
  pub is_one : IsOne event
  pub history : h' ≡ h ++ event ∷ []
  pub hardware : IsAsked asked (ask_after board h event) asked'

-- the same of a command of agent a, with the answer to it at its place in the history
pub record ExecutesOn (board : Board) (a : ℕ) (frame : Frame) (given : Answer) (h : List Event)
    (asked : List Asked → Type 0) (h' : List Event) (asked' : List Asked → Type 0) : Type 0 where
  pub happens : HappensOn board (IsCommandOf a frame) h asked h' asked'
  pub answer : answer_of_event board h happens.event ≡ Some given

-- one more event of a kind moves a platform on, whatever history it comes after, and the hardware
-- was asked for what belongs to it, and for nothing else
pub record HappensThere (IsOne : Event → Type 0) (p : Standing) (asked : List Asked → Type 0)
    (k : Standing) (asked' : List Asked → Type 0) : Type 0 where
  pub event : Event
  pub is_one : IsOne event
  pub moves : MovesOn p event k
  pub hardware : (h : List Event) → StandsAfter p h
      → IsAsked asked (ask_after p.board h event) asked'

-- the same of a command of agent a, with the answer to it
pub record ExecutesThere (a : ℕ) (frame : Frame) (given : Answer) (p : Standing)
    (asked : List Asked → Type 0) (k : Standing) (asked' : List Asked → Type 0) : Type 0 where
  pub happens : HappensThere (IsCommandOf a frame) p asked k asked'
  pub answer : (h : List Event) → StandsAfter p h
      → answer_of_event p.board h happens.event ≡ Some given

-- a command of agent a is executed and answered, as if no hardware may refuse
abbrev pub IsExecuted : Board → ℕ → Frame → Answer → List Event → List Event → Type 0
IsExecuted board a frame given h h' = (h' ≡ h ++ Command a frame ∷ [])
    × (given ≡ answer_to board a frame h)

-- the same of a platform, whatever history it comes after
abbrev pub IsExecutedThere : ℕ → Frame → Answer → Standing → Standing → Type 0
IsExecutedThere a frame given p k = MovesOn p (Command a frame) k
    × ((h : List Event) → StandsAfter p h → given ≡ answer_to p.board a frame h)

-- hardware that keeps a list has been asked for exactly what belongs to a history, in order, each
-- change once, after what it had been asked for before: it has made what the history changes but
-- what it reported, and refused what failed
abbrev pub HasMade : List Asked → Board → List Event → (List Asked → Type 0) → Type 0
HasMade before board h asked = asked (before ++ asks board h)

-- the same of the history of a platform, with nothing before
abbrev pub IsDriven : Standing → (List Asked → Type 0) → Type 0
IsDriven p asked = (h : List Event) × StandsAfter p h × asked (asks p.board h)
