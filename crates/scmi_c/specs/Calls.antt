-- What calls leave, and when they leave all as it was.
use Rattle.std.specs.Prelude.{◌≡◌, ◌≢◌, ◌↔◌, ℕ, List, [], ◌∷◌, ◌++◌, length, Some, None, slice_get}
use Rattle.scmi_codec.specs.Area.{area_after_answer, area_after_post}
use Rattle.scmi_codec.specs.ChannelArea.{channel_waiting}
use Rattle.scmi_codec.specs.declared.frame.Frame.{Frame}
use Rattle.scmi_codec.specs.declared.message.Message.{Message}
use Rattle.scmi_plan.specs.Agent.{IsAgent}
use Rattle.scmi_plan.specs.Board.{Board}
use Rattle.scmi_plan.specs.Plan.{IsValid}
use Rattle.scmi_plan.specs.declared.effect.Effect.TheVariants.{Rate}
use Rattle.scmi_core.specs.Effect.{effect_after}
use Rattle.scmi_core.specs.History.{answer_to, outbox}
use Rattle.scmi_core.specs.Reply.{failed_answer}
use Rattle.scmi_core.specs.declared.event.Event.{Event}
use Rattle.scmi_core.specs.declared.event.Event.TheVariants.{Command as Called, CommandFailed, Reported}
use Rattle.scmi_codec.specs.declared.fault.Fault.{Fault}
use Rattle.scmi_c.specs.Standing.{Held, IsCounted, StandsAt, board_of}

-- one more event has happened to a platform, whose events are counted as before
pub record HasHappened (p k : Held) (event : Event) : Type 0 where
  pub after : (h : List Event) → StandsAt p h → StandsAt k (h ++ event ∷ [])
  pub board : board_of k ≡ board_of p
  pub counted : IsCounted p ↔ IsCounted k

-- an agent's frame was executed, and the area is the definition's answer to it at its place in the
-- history
pub record HasAnswered (p k : Held) (agent : ℕ) (frame : Frame)
    (before after : List ℕ) : Type 0 where
  pub answer : (h : List Event) → StandsAt p h
      → after ≡ area_after_answer (answer_to (board_of p) agent frame h) before
  pub event : HasHappened p k (Called agent frame)

-- the same, and then a clock was reported to have a rate; the platform between is as the command
-- left it
pub record HasAnsweredAtRate (p k : Held) (agent : ℕ) (frame : Frame) (clock rate : ℕ)
    (before after : List ℕ) : Type 0 where
  pub between : Held
  pub answered : HasAnswered p between agent frame before after
  pub reported : HasHappened between k (Reported (Rate clock rate))

-- a command of an agent of the board waits to be committed or to fail: the platform is as before
pub record IsAskedAbout (p k : Held) (agent : ℕ) : Type 0 where
  pub is_agent : IsAgent (length (board_of p).agents) agent
  pub same : k ≡ p
  pub valid : IsValid (board_of p)

-- an agent's frame failed with a fault, and the area is the answer to it, the status of the fault
pub record HasFailed (p k : Held) (agent : ℕ) (frame : Frame) (fault : Fault)
    (before after : List ℕ) : Type 0 where
  pub answer : after ≡ area_after_answer (failed_answer frame fault) before
  pub event : HasHappened p k (CommandFailed agent frame fault)

-- the first message of an agent's outbox is in the area as posted, which held none before
pub record HasPosted (p : Held) (agent : ℕ) (before after : List ℕ) : Type 0 where
  pub message : Message
  pub first : (h : List Event) → StandsAt p h
      → slice_get (outbox (board_of p) agent h) 0 ≡ Some message
  pub free : channel_waiting before ≡ None
  pub area : after ≡ area_after_post message before

-- no message waits for an agent of the board after a history
abbrev pub LacksNext : Board → ℕ → List Event → Type 0
LacksNext board agent h = IsAgent (length board.agents) agent
    × (slice_get (outbox board agent h) 0 ≡ None)

-- a message waits for an agent of the board after a history
abbrev pub HasNext : Board → ℕ → List Event → Type 0
HasNext board agent h = IsAgent (length board.agents) agent
    × (slice_get (outbox board agent h) 0 ≢ None)

-- a frame of an agent of the board is to change nothing of the hardware after a history
abbrev pub ChangesNothing : Board → ℕ → Frame → List Event → Type 0
ChangesNothing board agent frame h = IsAgent (length board.agents) agent
    × (effect_after board h (Called agent frame) ≡ None)
