-- What every legal history keeps of the channels of its agents.
use Rattle.std.specs.Prelude.{◌≡◌, ℕ, ◌≤◌, true, ⊤, List, [], length}
use Rattle.std.specs.List.{All}
use Rattle.scmi_codec.specs.declared.message.Message.{Message}
use Rattle.scmi_codec.specs.declared.frame.Answer.{Answer}
use Rattle.scmi_codec.specs.declared.frame.Answer.TheVariants.{Reply}
use Rattle.scmi_plan.specs.Board.{Board, channel_of}
use Rattle.scmi_core.specs.declared.event.Event.{Event}
use Rattle.scmi_core.specs.Agents.{answers_to}
use Rattle.scmi_core.specs.History.{made_for, outbox}

-- a message has no more payload words than the channels of agent a
abbrev pub IsWithin : Board → ℕ → Message → Type 0
IsWithin board a m = length m.payload.items ≤ (channel_of board a).words

-- an answer has no more payload words than the channels of agent a; only a reply has any
abbrev pub IsAnswerWithin : Board → ℕ → Answer → Type 0
IsAnswerWithin board a (Reply m) = IsWithin board a m
IsAnswerWithin board a _ = ⊤

-- the platform can't send to agent a
abbrev pub IsOneWay : Board → ℕ → Type 0
IsOneWay board a = (channel_of board a).one_way ≡ true

-- each answer to an agent, and each message that was made for it, has room in its channels; and for
-- an agent that the platform can't send to none was made, so that its outbox is empty
pub record KeepsChannels (board : Board) (h : List Event) : Type 0 where
  pub answers : (a : ℕ) → All (IsAnswerWithin board a) (answers_to board a h)
  pub made : (a : ℕ) → All (IsWithin board a) (made_for board a h)
  pub none_made : (a : ℕ) → IsOneWay board a → made_for board a h ≡ []
  pub outbox : (a : ℕ) → IsOneWay board a → outbox board a h ≡ []
