-- Hardware that a program drives beside a platform, as far as the program says what it did.
use Rattle.std.specs.Prelude.{◌≡◌, ℕ, List, [], ◌∷◌, ◌++◌, Option, None}
use Rattle.std.specs.Option.{option_to_list}
use Rattle.scmi_codec.specs.declared.frame.Frame.{Frame}
use Rattle.scmi_plan.specs.Board.{Board}
use Rattle.scmi_core.specs.Asked.{Asked, Made, Refused, and_asked}
use Rattle.scmi_core.specs.Driven.{ask_after, asks}
use Rattle.scmi_core.specs.Effect.{effect_after}
use Rattle.scmi_plan.specs.declared.effect.Effect.{Effect}
use Rattle.scmi_core.specs.declared.event.Event.{Event}
use Rattle.scmi_core.specs.declared.event.Event.TheVariants.{Command as Called, Advance, CommandFailed, AdvanceFailed}
use Rattle.scmi_c.specs.Calls.{HasHappened}
use Rattle.scmi_c.specs.Effect.{numbers_of}
use Rattle.scmi_c.specs.Standing.{Held, StandsAt, board_of}
use Rattle.scmi_c.specs.declared.effect.EffectNumbers.{EffectNumbers}

-- what was said of the hardware is what belongs to a history: it made exactly the changes of the
-- history, in order, each once, and refused exactly those that failed
abbrev pub IsDriven : Held → List Event → Type 0
IsDriven p h = StandsAt p h × (p.said ≡ asks (board_of p) h)

-- at one more event what belongs to it was said, and nothing else; so a platform that was driven is
-- driven
pub record Drives (p k : Held) (event : Event) : Type 0 where
  pub said : (h : List Event) → StandsAt p h
      → k.said ≡ and_asked p.said (ask_after (board_of p) h event)
  pub driven : (h : List Event) → IsDriven p h → IsDriven k (h ++ event ∷ [])

-- two events have happened to a platform, the second to what the first left, and at each what
-- belongs to it was said, and nothing else
pub record HappenInTurn (p k : Held) (first second : Event) : Type 0 where
  pub between : Held
  pub happened : HasHappened p between first
  pub drives : Drives p between first
  pub happened_then : HasHappened between k second
  pub drives_then : Drives between k second

-- a command was executed, and nothing was said; so a platform that was driven is driven if the
-- command changes no hardware
pub record IsUnsaid (p k : Held) (agent : ℕ) (frame : Frame) : Type 0 where
  pub said : k.said ≡ p.said
  pub driven : (h : List Event) → IsDriven p h → effect_after (board_of p) h (Called agent frame)
      ≡ None → IsDriven k (h ++ Called agent frame ∷ [])

-- the change of these numbers was said, that it was made or that it was refused, and nothing else
pub record Says (ask : Effect → Asked) (change : EffectNumbers) (p k : Held) : Type 0 where
  pub effect : Effect
  pub numbers : numbers_of effect ≡ change
  pub said : k.said ≡ p.said ++ ask effect ∷ []

-- the changes that were refused of those asked for
abbrev pub refused_of : List Asked → List Effect
refused_of [] = []
refused_of (Made effect ∷ asks) = refused_of asks
refused_of (Refused effect fault ∷ asks) = effect ∷ refused_of asks

-- what an event that failed was to change of the hardware
abbrev pub failure_after : Board → List Event → Event → Option Effect
failure_after board h (CommandFailed a frame fault) = effect_after board h (Called a frame)
failure_after board h (AdvanceFailed fault) = effect_after board h Advance
failure_after board h _ = None

-- what failed of events that come after others, in order
abbrev pub failures_from : Board → List Event → List Event → List Effect
failures_from board before [] = []
failures_from board before (event ∷ after) = option_to_list (failure_after board before event)
    ++ failures_from board (before ++ event ∷ []) after

-- what failed in a history, in order
abbrev pub failures : Board → List Event → List Effect
failures board h = failures_from board [] h
