-- What one more event adds to what an agent did, was answered and was sent, for those who keep its
-- ends.
use Rattle.std.proofs.Common.{◌≡◌, ◌≢◌, ℕ, false, List, [], ◌∷◌, ◌++◌, length, take, slice_get, Some, None, refl, ap, ◌∙◌, if◌then◌else◌}
use Rattle.std.specs.List.{filter_map, cons_option}
use Rattle.std.proofs.lemmas.List.{append-nil, take-append-drop}
use Rattle.std.proofs.lemmas.List.Elements.{filter_map-append}
use Rattle.std.proofs.lemmas.Bool.{eq-eqb, ne_eqb}
use Rattle.scmi_codec.specs.declared.message.Message.{Message}
use Rattle.scmi_codec.specs.declared.frame.Frame.{Frame}
use Rattle.scmi_plan.specs.Board.{Board}
use Rattle.scmi_plan.specs.declared.effect.Effect.{Effect}
use Rattle.scmi_core.specs.declared.event.Event.{Event}
use Rattle.scmi_codec.specs.declared.fault.Fault.{Fault}
use Rattle.scmi_core.specs.declared.event.Event.TheVariants.{Command, Advance, Sent, CommandFailed, AdvanceFailed, Restarted, Promoted, Settled, Reported}
use Rattle.scmi_core.specs.Deed.{fold_with_prefix}
use Rattle.scmi_core.specs.Outbox.{messages_made, sent_count, is_sent_by}
use Rattle.scmi_core.specs.History.{answer_to, deeds, deed_after, made_for, delivered_messages, outbox}
use Rattle.scmi_core.specs.Agents.{frame_from, frames_of, answer_for, answers_to}
use Rattle.scmi_core.specs.Reply.{failed_answer}
use Rattle.scmi_core.specs.Legal.{IsLegal}
use Rattle.scmi_core.proofs.Deeds.{fold_with_prefix-push, posted-kept, posted-front}
use Rattle.scmi_core.proofs.Legal.{IsLegal-nil, deed-event, deeds-push, sent_le-made}
use Rattle.scmi_core.proofs.Agents.{answers-length}

-- a command of an agent adds its frame to the agent's frames
pub frames_own : (a : ℕ) (h : List Event) (f : Frame)
    → frames_of a (h ++ Command a f ∷ []) ≡ frames_of a h ++ f ∷ []
unfolding frames_of
frames_own a h f =
    filter_map-append (frame_from a) h (Command a f ∷ [])
    ∙ ap (λ same. filter_map (frame_from a) h ++ cons_option (if same then Some f else None) [])
    (eq-eqb a a refl)

-- and none to another agent's
pub frames_other : (b a : ℕ) (h : List Event) (f : Frame) → b ≢ a
    → frames_of b (h ++ Command a f ∷ []) ≡ frames_of b h
unfolding frames_of
frames_other b a h f differ =
    filter_map-append (frame_from b) h (Command a f ∷ [])
    ∙ ap (λ same. filter_map (frame_from b) h ++ cons_option (if same then Some f else None) [])
    (ne_eqb b a differ)
    ∙ append-nil (filter_map (frame_from b) h)

-- a command of an agent adds the answer to its frame, at its place in the history
pub answers_own : (board : Board) (a : ℕ) (h : List Event) (f : Frame) → answers_to board a
    (h ++ Command a f ∷ []) ≡ answers_to board a h ++ answer_to board a f h ∷ []
unfolding answers_to
answers_own board a h f =
    fold_with_prefix-push (λ before so_far event. so_far ++ answer_for board a before event) [] [] h
    (Command a f)
    ∙ ap (λ same. answers_to board a h ++ (if same then answer_to board a f h ∷ [] else []))
    (eq-eqb a a refl)

-- and none for another agent
pub answers_other : (board : Board) (b a : ℕ) (h : List Event) (f : Frame) → b ≢ a
    → answers_to board b (h ++ Command a f ∷ []) ≡ answers_to board b h
unfolding answers_to
answers_other board b a h f differ =
    fold_with_prefix-push (λ before so_far event. so_far ++ answer_for board b before event) [] [] h
    (Command a f)
    ∙ ap (λ same. answers_to board b h ++ (if same then answer_to board a f h ∷ [] else []))
    (ne_eqb b a differ)
    ∙ append-nil (answers_to board b h)

-- the same of a command that failed
pub frames_failed_own : (a : ℕ) (h : List Event) (f : Frame) (fault : Fault)
    → frames_of a (h ++ CommandFailed a f fault ∷ []) ≡ frames_of a h ++ f ∷ []
unfolding frames_of
frames_failed_own a h f fault =
    filter_map-append (frame_from a) h (CommandFailed a f fault ∷ [])
    ∙ ap (λ same. filter_map (frame_from a) h ++ cons_option (if same then Some f else None) [])
    (eq-eqb a a refl)

pub frames_failed_other : (b a : ℕ) (h : List Event) (f : Frame) (fault : Fault) → b ≢ a
    → frames_of b (h ++ CommandFailed a f fault ∷ []) ≡ frames_of b h
unfolding frames_of
frames_failed_other b a h f fault differ =
    filter_map-append (frame_from b) h (CommandFailed a f fault ∷ [])
    ∙ ap (λ same. filter_map (frame_from b) h ++ cons_option (if same then Some f else None) [])
    (ne_eqb b a differ)
    ∙ append-nil (filter_map (frame_from b) h)

pub answers_failed_own : (board : Board) (a : ℕ) (h : List Event) (f : Frame) (fault : Fault)
    → answers_to board a (h ++ CommandFailed a f fault ∷ [])
    ≡ answers_to board a h ++ failed_answer f fault ∷ []
unfolding answers_to
answers_failed_own board a h f fault =
    fold_with_prefix-push (λ before so_far event. so_far ++ answer_for board a before event) [] [] h
    (CommandFailed a f fault)
    ∙ ap (λ same. answers_to board a h ++ (if same then failed_answer f fault ∷ [] else []))
    (eq-eqb a a refl)

pub answers_failed_other : (board : Board) (b a : ℕ) (h : List Event) (f : Frame) (fault : Fault)
    → b ≢ a → answers_to board b (h ++ CommandFailed a f fault ∷ []) ≡ answers_to board b h
unfolding answers_to
answers_failed_other board b a h f fault differ =
    fold_with_prefix-push (λ before so_far event. so_far ++ answer_for board b before event) [] [] h
    (CommandFailed a f fault)
    ∙ ap (λ same. answers_to board b h ++ (if same then failed_answer f fault ∷ [] else []))
    (ne_eqb b a differ)
    ∙ append-nil (answers_to board b h)

-- an event that is no command
pub data IsQuiet : Event → Type 0 where
  advance : IsQuiet Advance
  advance_failed : (fault : Fault) → IsQuiet (AdvanceFailed fault)
  sent_to : (b : ℕ) → IsQuiet (Sent b)
  restarted : (b : ℕ) → IsQuiet (Restarted b)
  promoted : (place : ℕ) → IsQuiet (Promoted place)
  settled : (clock rate : ℕ) → IsQuiet (Settled clock rate)
  reported : (effect : Effect) → IsQuiet (Reported effect)

-- an event that is no command adds no frame
pub frames_quiet : (a : ℕ) (h : List Event) (e : Event) → IsQuiet e
    → frames_of a (h ++ e ∷ []) ≡ frames_of a h
unfolding frames_of
frames_quiet a h e advance = filter_map-append (frame_from a) h (Advance ∷ [])
    ∙ append-nil (filter_map (frame_from a) h)
frames_quiet a h e (advance_failed fault) = filter_map-append (frame_from a) h
    (AdvanceFailed fault ∷ []) ∙ append-nil (filter_map (frame_from a) h)
frames_quiet a h e (sent_to b) = filter_map-append (frame_from a) h (Sent b ∷ [])
    ∙ append-nil (filter_map (frame_from a) h)
frames_quiet a h e (restarted b) = filter_map-append (frame_from a) h (Restarted b ∷ [])
    ∙ append-nil (filter_map (frame_from a) h)
frames_quiet a h e (promoted place) = filter_map-append (frame_from a) h (Promoted place ∷ [])
    ∙ append-nil (filter_map (frame_from a) h)
frames_quiet a h e (settled clock rate) = filter_map-append (frame_from a) h
    (Settled clock rate ∷ []) ∙ append-nil (filter_map (frame_from a) h)
frames_quiet a h e (reported effect) = filter_map-append (frame_from a) h (Reported effect ∷ [])
    ∙ append-nil (filter_map (frame_from a) h)

-- and no answer
pub answers_quiet : (board : Board) (a : ℕ) (h : List Event) (e : Event) → IsQuiet e
    → answers_to board a (h ++ e ∷ []) ≡ answers_to board a h
unfolding answers_to
answers_quiet board a h e advance =
    fold_with_prefix-push (λ before so_far event. so_far ++ answer_for board a before event) []
    [] h Advance ∙ append-nil (answers_to board a h)
answers_quiet board a h e (advance_failed fault) =
    fold_with_prefix-push (λ before so_far event. so_far ++ answer_for board a before event) [] [] h
    (AdvanceFailed fault) ∙ append-nil (answers_to board a h)
answers_quiet board a h e (sent_to b) =
    fold_with_prefix-push (λ before so_far event. so_far ++ answer_for board a before event) [] [] h
    (Sent b) ∙ append-nil (answers_to board a h)
answers_quiet board a h e (restarted b) =
    fold_with_prefix-push (λ before so_far event. so_far ++ answer_for board a before event) [] [] h
    (Restarted b) ∙ append-nil (answers_to board a h)
answers_quiet board a h e (promoted place) =
    fold_with_prefix-push (λ before so_far event. so_far ++ answer_for board a before event) [] [] h
    (Promoted place) ∙ append-nil (answers_to board a h)
answers_quiet board a h e (settled clock rate) =
    fold_with_prefix-push (λ before so_far event. so_far ++ answer_for board a before event) [] [] h
    (Settled clock rate) ∙ append-nil (answers_to board a h)
answers_quiet board a h e (reported effect) =
    fold_with_prefix-push (λ before so_far event. so_far ++ answer_for board a before event) [] [] h
    (Reported effect) ∙ append-nil (answers_to board a h)

-- an agent has as many answers as frames
pub as_many : (board : Board) (a : ℕ) (h : List Event)
    → length (answers_to board a h) ≡ length (frames_of a h)
as_many board a h = answers-length board a h

-- what is not posted to an agent leaves what was posted to it
pub delivered_kept : (board : Board) (a : ℕ) (h : List Event) (e : Event)
    → IsLegal board h → is_sent_by a e ≡ false
    → delivered_messages board a (h ++ e ∷ []) ≡ delivered_messages board a h
unfolding delivered_messages
delivered_kept board a h e legal other =
    ap (λ ds. take (sent_count a ds) (messages_made board a ds)) (deeds-push board h e)
    ∙ posted-kept board a (deeds board h) (deed_after board (deeds board h) e) (ap (is_sent_by a)
    (deed-event board (deeds board h) e) ∙ other) (sent_le-made board h legal a)

-- a posting to an agent adds the first message of its outbox
pub delivered_sent : (board : Board) (a : ℕ) (h : List Event) (m : Message)
    → slice_get (outbox board a h) 0 ≡ Some m
    → delivered_messages board a (h ++ Sent a ∷ []) ≡ delivered_messages board a h ++ m ∷ []
unfolding delivered_messages outbox
delivered_sent board a h m first =
    ap (λ ds. take (sent_count a ds) (messages_made board a ds)) (deeds-push board h (Sent a))
    ∙ posted-front board a (deeds board h) (deed_after board (deeds board h) (Sent a)) m
    (eq-eqb a a refl) first

-- and none to another agent
pub delivered_other : (board : Board) (b a : ℕ) (h : List Event) → IsLegal board h → b ≢ a
    → delivered_messages board b (h ++ Sent a ∷ []) ≡ delivered_messages board b h
delivered_other board b a h legal differ =
    delivered_kept board b h (Sent a) legal (ne_eqb b a differ)

-- what was made for an agent is what was posted to it, and then its outbox
pub made_is : (board : Board) (a : ℕ) (h : List Event)
    → delivered_messages board a h ++ outbox board a h ≡ made_for board a h
unfolding delivered_messages outbox made_for
made_is board a h =
    take-append-drop (sent_count a (deeds board h)) (messages_made board a (deeds board h))

-- at the start no agent has a frame
pub frames_empty : (a : ℕ) → frames_of a [] ≡ []
unfolding frames_of
frames_empty a = refl

-- nor an answer
pub answers_empty : (board : Board) (a : ℕ) → answers_to board a [] ≡ []
unfolding answers_to fold_with_prefix
answers_empty board a = refl

-- and nothing was posted to it
pub delivered_empty : (board : Board) (a : ℕ) → delivered_messages board a [] ≡ []
unfolding delivered_messages deeds fold_with_prefix
delivered_empty board a = refl

-- the empty history is legal
pub empty_is_legal : (board : Board) → IsLegal board []
empty_is_legal board = IsLegal-nil board
