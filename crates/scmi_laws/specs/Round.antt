-- What a round of the platform leaves: it serves each agent once, ends the first pending set, and
-- flushes each agent's outbox once.
use Rattle.std.specs.Prelude.{◌≡◌, ◌⊎◌, ℕ, ◌+◌, ◌<◌, ◌≤◌, Bool, true, List, [], ◌∷◌, ◌++◌, length, drop}
use Rattle.std.specs.List.{All}
use Rattle.scmi_codec.specs.declared.frame.Frame.{Frame}
use Rattle.scmi_codec.specs.declared.frame.Answer.{Answer}
use Rattle.scmi_link.specs.View.{CalleeView, CallerView, IsOutstanding, Owes, knows_close, one_more}
use Rattle.scmi_plan.specs.Board.{Board}
use Rattle.scmi_core.specs.declared.event.Event.{Event}
use Rattle.scmi_core.specs.declared.event.Event.TheVariants.{Sent}
use Rattle.scmi_core.specs.declared.pending_set.PendingSet.{PendingSet}
use Rattle.scmi_core.specs.Driven.{IsCommandOf, IsEnd}
use Rattle.scmi_core.specs.History.{deeds, outbox}
use Rattle.scmi_core.specs.Pending.{pending_sets}

-- THE EVENTS OF A ROUND

-- an event is a command of agent a, done or failed
abbrev pub IsCommand : ℕ → Event → Type 0
IsCommand a event = (frame : Frame) × IsCommandOf a frame event

-- an event is the posting of a message to agent a
abbrev pub IsPosting : ℕ → Event → Type 0
IsPosting a event = event ≡ Sent a

-- at most one event of each agent, in order of their numbers, from the first and below the end
abbrev pub AtMostOneEach : (ℕ → Event → Type 0) → ℕ → ℕ → List Event → Type 0
AtMostOneEach IsOf first end [] = Unit {0}
AtMostOneEach IsOf first end (event ∷ events) =
    (a : ℕ) × (first ≤ a) × (a < end) × IsOf a event × AtMostOneEach IsOf (a + 1) end events

-- a history is longer by at most one such event of each agent, in order of their numbers, below the
-- end
pub record AddsAtMostOneEach (IsOf : ℕ → Event → Type 0) (end : ℕ)
    (h h' : List Event) : Type 0 where
  pub events : List Event
  pub history : h' ≡ h ++ events
  pub one_each : AtMostOneEach IsOf 1 end events

-- a history is longer by what is fair to these agents: at most one command of each, in order of
-- their numbers, then at most one end of a pending set, and then at most one posting to each, in
-- that order
pub record AddsFairly (agents : ℕ) (h h' : List Event) : Type 0 where
  pub commands : List Event
  pub ends : List Event
  pub postings : List Event
  pub history : h' ≡ h ++ (commands ++ (ends ++ postings))
  pub one_command_each : AtMostOneEach IsCommand 1 (agents + 1) commands
  pub one_end : length ends ≤ 1
  pub each_ends : All IsEnd ends
  pub one_posting_each : AtMostOneEach IsPosting 1 (agents + 1) postings

-- the first set ends of those that were pending and then those that the commands of this round left
-- pending, if there is one, and the others stay pending in order
pub record EndsFirst (board : Board) (h h' : List Event) : Type 0 where
  pub round : AddsFairly (length board.agents) h h'
  pub accepted : List PendingSet
  pub served : pending_sets board (deeds board (h ++ round.commands))
      ≡ pending_sets board (deeds board h) ++ accepted
  pub ended : pending_sets board (deeds board h')
      ≡ drop 1 (pending_sets board (deeds board (h ++ round.commands)))

-- THE ENDPOINTS OF AN AGENT

-- the endpoint of an agent's A2P channel polled once, took at most one command, and answered what
-- it took; it owes no answer
pub record IsServedOnce (old new : CalleeView) : Type 0 where
  pub frames : List Frame
  pub answers : List Answer
  pub taken : new.taken ≡ old.taken ++ frames
  pub at_most_one : length frames ≤ 1
  pub answered : new.answered ≡ old.answered ++ answers
  pub each_answered : length answers ≡ length frames
  pub polled : new.takes ≡ one_more old.takes
  pub owes_none : ¬ (Owes new)

-- the endpoint of an agent's P2A channel collected once, and posted at most one message
pub record IsFlushedOnce (old new : CallerView) : Type 0 where
  pub messages : List Frame
  pub posted : new.posted ≡ old.posted ++ messages
  pub at_most_one : length messages ≤ 1
  pub collected : new.collects ≡ one_more old.collects

-- what a new endpoint is, and each call leaves: the answer to each frame that was posted was read,
-- or to each but the last, and a post was withdrawn or given up only by a close that the endpoint
-- knows of
pub record IsOrderly (v : CallerView) : Type 0 where
  pub answers : length v.read ≤ length v.posted
  pub at_most_one_unread : length v.posted ≤ length v.read + 1
  pub left : v.left ≡ true → knows_close v ≡ true

-- nothing waits in agent a's outbox after history h, or else a message is outstanding on its P2A
-- channel, or the endpoint knows of a close, or the channel may be full
abbrev pub HasPostedAll : Bool → Board → ℕ → List Event → CallerView → Type 0
HasPostedAll full board a h caller =
    (outbox board a h ≡ [])
    ⊎ (IsOutstanding caller ⊎ ((knows_close caller ≡ true) ⊎ (full ≡ true)))
