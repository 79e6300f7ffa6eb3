-- The history of a platform: a list of events, oldest first. Each event is judged at its prefix,
-- the events before it.
use Rattle.std.specs.Prelude.{◌≡◌, ℕ, Bool, true, List, [], ◌∷◌, ◌++◌, length, take, ◌<◌, Option, Some, None}
use Rattle.std.specs.List.{fold}
use Rattle.scmi_codec.specs.declared.message.Message.{Message}
use Rattle.scmi_codec.specs.declared.frame.Frame.{Frame}
use Rattle.scmi_codec.specs.declared.frame.Frame.TheVariants.{Good}
use Rattle.scmi_codec.specs.declared.frame.Answer.{Answer}
use Rattle.scmi_codec.specs.declared.frame.Answer.TheVariants.{Reply, ChannelError}
use Rattle.scmi_core.specs.declared.answered.Answered.{Answered}
use Rattle.scmi_core.specs.declared.answered.Answered.TheVariants as answered
use Rattle.scmi_plan.specs.Agent.{IsAgent}
use Rattle.scmi_plan.specs.Board.{Board, is_free}
use Rattle.scmi_plan.specs.declared.resource.Resource.{Resource}
use Rattle.scmi_plan.specs.declared.resource.Resource.TheVariants as resource
use Rattle.scmi_core.specs.declared.event.Event.{Event}
use Rattle.scmi_core.specs.declared.event.Event.TheVariants.{Command, CommandFailed}
use Rattle.scmi_core.specs.Deed.{Deed}
use Rattle.scmi_core.specs.Outbox.{failed_words, messages_made, outbox_after, sent_count, situation_after}
use Rattle.scmi_core.specs.Pending.{is_pending, pending_sets}
use Rattle.scmi_core.specs.Reply.{answer_in, failed_answer, reply_in, words_given}
use Rattle.scmi_core.specs.Subscriptions.{is_subscriber}
use Rattle.scmi_core.specs.Value.{Thing, value}

-- an event with the payload of its reply, after these deeds
abbrev pub deed_after : Board → List Deed → Event → Deed
deed_after board h (Command a (Good m)) =
    record { event = Command a (Good m); reply = words_given board a (situation_after board a h) m }
deed_after board h (CommandFailed a (Good m) fault) =
    record { event = CommandFailed a (Good m) fault; reply = failed_words fault }
deed_after board h event = record { event = event; reply = [] }

-- each event with its reply at its prefix
unfoldable pub deeds : Board → List Event → List Deed
deeds board h = fold (λ before event. before ++ deed_after board before event ∷ []) [] h

-- the reply to a message of agent a after a history, if it fits its channel
abbrev pub scmi : Board → ℕ → Message → List Event → Message
scmi board a m h = reply_in board a m (situation_after board a (deeds board h))

-- the answer to a frame of agent a after a history
abbrev pub answer_to : Board → ℕ → Frame → List Event → Answer
answer_to board a frame h = answer_in board a frame (situation_after board a (deeds board h))

-- the answer, from what was answered and the reply beside it
abbrev pub answer_with : Answered → Message → Answer
answer_with answered.Reply m = Reply m
answer_with answered.ChannelError m = ChannelError

-- the answer to an event after a history, if it is a command
abbrev pub answer_of_event : Board → List Event → Event → Option Answer
answer_of_event board h (Command a frame) = Some (answer_to board a frame h)
answer_of_event board h (CommandFailed a frame fault) = Some (failed_answer frame fault)
answer_of_event board h _ = None

-- all messages made for agent a in a history, in order, without those that a restart of it dropped
unfoldable pub made_for : Board → ℕ → List Event → List Message
made_for board a h = messages_made board a (deeds board h)

-- the messages that were posted to agent a: the first of those made for it
unfoldable pub delivered_messages : Board → ℕ → List Event → List Message
delivered_messages board a h =
    take (sent_count a (deeds board h)) (messages_made board a (deeds board h))

-- the outbox of agent a after a history
unfoldable pub outbox : Board → ℕ → List Event → List Message
outbox board a h = outbox_after board a (deeds board h)

-- no set is pending after a history
abbrev pub IsIdle : Board → List Event → Type 0
IsIdle board h = pending_sets board (deeds board h) ≡ []

-- a set is pending at this place after a history; 0 is the first
abbrev pub HasPendingAt : Board → List Event → ℕ → Type 0
HasPendingAt board h place = place < length (pending_sets board (deeds board h))

-- this is a clock of the board that is free and has a pending set after a history: the hardware may
-- settle the rate of that set
abbrev pub CanSettle : Board → List Event → ℕ → Type 0
CanSettle board h clock = (clock < length board.clocks) × (is_free board clock ≡ true)
    × (is_pending board (resource.Clock clock) (deeds board h) ≡ true)

-- nothing waits for this agent of the board after a history
abbrev pub HasNothingFor : Board → ℕ → List Event → Type 0
HasNothingFor board a h = IsAgent (length board.agents) a × (outbox board a h ≡ [])

-- a thing's value after a history
abbrev pub value_after : Board → Thing → List Event → ℕ
value_after board x h = value board x (deeds board h)

-- whether a domain or clock has a pending set after a history
abbrev pub is_pending_after : Board → Resource → List Event → Bool
is_pending_after board r h = is_pending board r (deeds board h)

-- whether agent a is notified of domain d's changes after a history
abbrev pub is_subscriber_after : Board → (a d : ℕ) → List Event → Bool
is_subscriber_after board a d h = is_subscriber board a d (deeds board h)
