-- The histories that may be behind a record. The entries of a record, and the moves behind them,
-- stand newest first here.
use Rattle.std.specs.Prelude.{◌≡◌, ◌≢◌, ◌⊎◌, ⊤, ℕ, ◌<◌, Bool, true, false, List, [], ◌∷◌, ◌++◌, length, reverse, slice_get, Option, Some, None as Nothing}
use Rattle.std.specs.Option.{option_map_or, option_to_list}
use Rattle.scmi_plan.specs.Agent.{IsAgent}
use Rattle.scmi_plan.specs.Board.{Board}
use Rattle.scmi_codec.specs.declared.frame.Frame.{Frame}
use Rattle.scmi_codec.specs.declared.frame.Answer.{Answer}
use Rattle.scmi_codec.specs.declared.message.Message.{Message}
use Rattle.scmi_core.specs.declared.event.Event.{Event}
use Rattle.scmi_core.specs.declared.event.Event.TheVariants.{Command, Advance, Sent, CommandFailed, AdvanceFailed, Restarted, Promoted, Reported, Settled}
use Rattle.scmi_codec.specs.declared.fault.Fault.{Fault}
use Rattle.scmi_codec.specs.declared.fault.Fault.TheVariants.{HardwareError}
use Rattle.scmi_core.specs.declared.pending_set.PendingSet.{PendingSet}
use Rattle.scmi_core.specs.History.{answer_to, deeds, delivered_messages}
use Rattle.scmi_core.specs.Legal.{IsLegal, told}
use Rattle.scmi_core.specs.Pending.{pending_sets}
use Rattle.scmi_core.specs.Reply.{failed_answer}
use Rattle.scmi_judge.specs.Moves.{Move, history, outstanding, outstanding_at}
use Rattle.scmi_judge.specs.Shown.{message_shown}
use Rattle.scmi_judge.specs.declared.entry.Entry.{Entry}
use Rattle.scmi_judge.specs.declared.entry.Entry.TheVariants as entry
use Rattle.scmi_judge.specs.declared.outstanding.TheConstants.{OUTSTANDING}
use Rattle.scmi_judge.specs.declared.unseen.Refusals.{Refusals}
use Rattle.scmi_judge.specs.declared.unseen.Refusals.TheVariants.{None, Answered, Any}
use Rattle.scmi_judge.specs.declared.unseen.Unseen.{Unseen}

-- the messages that agent a is seen to take, in order
abbrev pub taken_by : ℕ → List Entry → List Message
taken_by a [] = []
taken_by a (entry ∷ entries) = taken_by a entries ++ option_to_list (message_shown a entry)

-- after a history agent a has been seen to take all that was posted to it, so that its channel is
-- empty
abbrev pub HasEmptyChannel : Board → List Entry → List Event → ℕ → Type 0
HasEmptyChannel board entries h a = delivered_messages board a h ≡ taken_by a entries

-- after a history agent a has been seen to take all that was posted to it, or all but the last
abbrev pub HasAtMostOne : Board → List Entry → List Event → ℕ → Type 0
HasAtMostOne board entries h a = (posted : Option Message)
    × (delivered_messages board a h ≡ taken_by a entries ++ option_to_list posted)

-- whether a delayed response is wanted to the first set that is pending after a history
abbrev pub is_first_wanted : Board → List Event → Bool
is_first_wanted board h = option_map_or (λ (p : PendingSet). p.wanted)
    (slice_get (pending_sets board (deeds board h)) 0) false

-- whether the hardware may refuse the change of the first set that is pending after a history
abbrev pub may_refuse : Refusals → Board → List Event → Bool
may_refuse None board h = false
may_refuse Answered board h = is_first_wanted board h
may_refuse Any board h = true

-- after a history that is behind these entries an event may come that no entry shows by itself: a
-- pending set completes;
-- or the hardware refuses its change with HARDWARE_ERROR, if it may; or a message is posted into
-- its agent's channel, if that is empty, so that at most one is posted and not yet seen;
-- or an agent restarts, if agents may
abbrev pub IsUnseenEvent : Unseen → Board → List Entry → List Event → Event → Type 0
IsUnseenEvent may board entries h Advance = Unit {0}
IsUnseenEvent may board entries h (AdvanceFailed fault) =
    (fault ≡ HardwareError) × (may_refuse may.refusals board h ≡ true)
IsUnseenEvent may board entries h (Sent a) = HasEmptyChannel board entries h a
IsUnseenEvent may board entries h (Command a frame) = ⊥
IsUnseenEvent may board entries h (CommandFailed a frame fault) = ⊥
IsUnseenEvent may board entries h (Restarted a) = may.restarts ≡ true
IsUnseenEvent may board entries h (Promoted place) = ⊥
IsUnseenEvent may board entries h (Reported effect) = ⊥
IsUnseenEvent may board entries h (Settled clock rate) = ⊥

-- after a history this event is a command of agent a with the answer that it gets there, or one
-- whose change the hardware refused with some fault, with the answer to that
abbrev pub IsAnswered : Board → List Event → ℕ → Frame → Event → Answer → Type 0
IsAnswered board h a frame event answer =
    ((event ≡ Command a frame) × (answer ≡ answer_to board a frame h))
    ⊎ ((fault : Fault) × (event ≡ CommandFailed a frame fault)
    × (answer ≡ failed_answer frame fault))

-- an event is no refusal of the hardware with another fault than HARDWARE_ERROR
abbrev pub FailsPlainly : Event → Type 0
FailsPlainly (CommandFailed a frame fault) = fault ≡ HardwareError
FailsPlainly (AdvanceFailed fault) = fault ≡ HardwareError
FailsPlainly _ = ⊤

-- after moves that are behind these entries this one may come that no entry shows by itself: an
-- unseen event, or a command is executed that is outstanding and was not executed yet, or the
-- hardware refuses its change with HARDWARE_ERROR
abbrev pub IsUnseen : Unseen → Board → List Entry → List Move → Move → Type 0
IsUnseen may board entries moves (Move.happens event) =
    IsUnseenEvent may board entries (history moves) event
IsUnseen may board entries moves (Move.executes k event answer) =
    (a : ℕ) × (frame : Frame) × (outstanding_at k moves ≡ Some (outstanding a frame Nothing))
    × IsAnswered board (history moves) a frame event answer × FailsPlainly event
IsUnseen may board entries moves (Move.asks k a frame) = ⊥
IsUnseen may board entries moves (Move.frees k) = ⊥

-- the hardware may refuse a command's change with the fault of this event: with HARDWARE_ERROR, and
-- with any other if it may refuse the changes of pending sets too
abbrev pub MayFail : Unseen → Event → Type 0
MayFail may (CommandFailed a frame fault) = (fault ≡ HardwareError) ⊎ (may.refusals ≢ None)
MayFail may _ = ⊤

-- after moves that are behind these entries, these are behind one more. A command with its answer
-- is executed here, or the hardware refuses its change with a fault that it may have. A message
-- that an agent takes is the one that was posted to it and not yet seen.
-- A command that is answered later is outstanding from here on, at a place that was free; its
-- answer is the one that it got when it was executed, and the place is free again; and if no answer
-- of it comes, the place is free at some time.
-- What the hardware told happens here
abbrev pub Fits : Unseen → Board → List Entry → List Move → Entry → List Move → Type 0
Fits may board entries moves (entry.Answered a frame answer) after =
    (event : Event) × (after ≡ Move.happens event ∷ moves)
    × IsAnswered board (history moves) a frame event answer × MayFail may event
Fits may board entries moves (entry.Delivered a message) after =
    IsAgent (length board.agents) a × (after ≡ moves)
    × (delivered_messages board a (history moves) ≡ taken_by a entries ++ message ∷ [])
Fits may board entries moves (entry.Asked k a frame) after =
    IsAgent (length board.agents) a × (after ≡ Move.asks k a frame ∷ moves) × (k < OUTSTANDING)
    × (outstanding_at k moves ≡ Nothing)
Fits may board entries moves (entry.Replied k a frame answer) after =
    (after ≡ Move.frees k ∷ moves)
    × (outstanding_at k moves ≡ Some (outstanding a frame (Some answer)))
Fits may board entries moves (entry.GivenUp k) after = after ≡ Move.frees k ∷ moves
Fits may board entries moves (entry.Told report) after = after ≡ Move.happens (told report) ∷ moves

-- moves are behind these entries, newest first: they show what they show of them, and unseen moves
-- stand anywhere
pub data Behind (may : Unseen) (board : Board) : List Entry → List Move → Type 0 where
  nothing : Behind may board [] []
  unseen : {entries : List Entry} {moves : List Move} → Behind may board entries moves
      → (move : Move) → IsUnseen may board entries moves move
      → Behind may board entries (move ∷ moves)
  shown : {entries : List Entry} {moves : List Move} → Behind may board entries moves
      → (entry : Entry) (after : List Move) → Fits may board entries moves entry after
      → Behind may board (entry ∷ entries) after

-- a legal history of a board is behind these entries, newest first
abbrev pub HasLegalHistory : Unseen → Board → List Entry → Type 0
HasLegalHistory may board entries =
    (moves : List Move) × IsLegal board (history moves) × Behind may board entries moves

-- a record is right: a legal history of the board is behind it
abbrev pub IsRight : Unseen → Board → List Entry → Type 0
IsRight may board entries = HasLegalHistory may board (reverse entries)

-- an entry is not of a command that is answered later
abbrev pub IsAtOnce : Entry → Type 0
IsAtOnce (entry.Answered a frame answer) = ⊤
IsAtOnce (entry.Delivered a message) = ⊤
IsAtOnce (entry.Told report) = ⊤
IsAtOnce _ = ⊥

-- a move is an event by itself
abbrev pub IsEvent : Move → Type 0
IsEvent (Move.happens event) = ⊤
IsEvent _ = ⊥
