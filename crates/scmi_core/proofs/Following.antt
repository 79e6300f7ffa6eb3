-- An agent's situation after one more event follows from the one before, and from that event.
use Rattle.std.proofs.Common.{◌≡◌, ℕ, ◌+◌, ◌≤◌, ◌==◌, true, false, List, [], ◌∷◌, ◌++◌, length, drop, slice_get, Option, None, unwrap_or, refl, sym, ap, ◌∙◌, arith, if◌then◌else◌}
use Rattle.std.proofs.lemmas.List.{append-nil, drop-drop}
use Rattle.std.specs.Option.{option_to_list, option_and_then, option_map_or, option_or}
use Rattle.scmi_codec.specs.declared.frame.Frame.TheVariants.{Good, Malformed}
use Rattle.scmi_codec.specs.declared.message.Message.{Message}
use Rattle.scmi_plan.specs.Board.{Board}
use Rattle.scmi_core.specs.declared.event.Event.{Event}
use Rattle.scmi_core.specs.declared.event.Event.TheVariants.{Command, Advance, Sent, CommandFailed, AdvanceFailed, Restarted, Promoted, Settled, Reported}
use Rattle.scmi_core.specs.declared.pending_set.PendingSet.{PendingSet}
use Rattle.scmi_core.specs.Deed.{Deed}
use Rattle.scmi_core.specs.History.{deed_after}
use Rattle.scmi_core.specs.Outbox.{failed_response_for, is_restart_of, is_sent_by, made_by, made_in, messages_left, messages_made, outbox_after, sent_count, situation_after}
use Rattle.scmi_core.specs.Pending.{acceptance, accepted_sets, advances, is_advance, pending_change, pending_left, pending_sets}
use Rattle.scmi_core.specs.Commands.{permission_in}
use Rattle.scmi_core.specs.Reply.{words_given}
use Rattle.scmi_core.specs.Situation.{Situation}
use Rattle.scmi_core.specs.Subscriptions.{subscription_at}
use Rattle.scmi_core.specs.Value.{Change, change_by, change_of, completed_set, failed_set, fault_in, reported, value_in}
use Rattle.scmi_core.proofs.Deeds.{added_success, has_permission-push, is_subscriber-push, messages_made-push, outbox-push, pending_sets-advance, pending_sets-failed, pending_sets-push, sent_count-push, value-push}
use Rattle.scmi_core.proofs.Situations.{messages_made-sent, nothing-made}

-- the set that an event completes, or ends as failed, by those that are pending
abbrev pub completed_in : List PendingSet → Event → Option PendingSet
completed_in pending Advance = slice_get pending 0
completed_in pending _ = None

abbrev pub failed_in : List PendingSet → Event → Option PendingSet
failed_in pending (AdvanceFailed fault) = slice_get pending 0
failed_in pending _ = None

abbrev pub change_in : Board → List PendingSet → Deed → Option Change
change_in board pending deed = option_or (reported deed.event)
    (change_of board (added_success board deed) (completed_in pending deed.event))

abbrev pub pending_next : Board → List PendingSet → Deed → List PendingSet
pending_next board pending deed = if is_advance deed.event
    then drop 1 pending else pending_left (pending_change deed.event) pending
    ++ option_to_list (option_and_then (acceptance board) (added_success board deed))

abbrev pub made_next : Board → ℕ → Situation → Deed → List Message
made_next board b s deed =
    option_map_or (failed_response_for b (fault_in deed.event)) (failed_in s.pending deed.event) []
    ++ made_in b s (pending_next board s.pending deed) (completed_in s.pending deed.event)
    (change_in board s.pending deed)

-- the situation of agent b after a deed, by the one before
abbrev pub next : Board → ℕ → Situation → Deed → Situation
next board b s deed =
    record {
      value = λ x. unwrap_or (option_and_then (value_in x) (change_in board s.pending deed))
          (s.value x);
      allowed = λ d scope. unwrap_or (option_and_then (λ it.
          permission_in board b d scope it.command) (added_success board deed)) (s.allowed d scope);
      subscribed = λ d. unwrap_or (subscription_at board b d deed) (s.subscribed d);
      pending = pending_next board s.pending deed;
      outbox = if is_sent_by b deed.event then drop 1 s.outbox
          else (if is_restart_of b deed.event then [] else s.outbox) ++ made_next board b s deed;
    }

completed_is : (board : Board) (h : List Deed) (e : Event)
    → completed_set board h e ≡ completed_in (pending_sets board h) e
completed_is board h Advance = refl
completed_is board h (Command a frame) = refl
completed_is board h (Sent a) = refl
completed_is board h (CommandFailed a frame fault) = refl
completed_is board h (AdvanceFailed fault) = refl
completed_is board h (Restarted a) = refl
completed_is board h (Promoted place) = refl
completed_is board h (Settled clock rate) = refl
completed_is board h (Reported effect) = refl

failed_is : (board : Board) (h : List Deed) (e : Event)
    → failed_set board h e ≡ failed_in (pending_sets board h) e
failed_is board h Advance = refl
failed_is board h (Command a frame) = refl
failed_is board h (Sent a) = refl
failed_is board h (CommandFailed a frame fault) = refl
failed_is board h (AdvanceFailed fault) = refl
failed_is board h (Restarted a) = refl
failed_is board h (Promoted place) = refl
failed_is board h (Settled clock rate) = refl
failed_is board h (Reported effect) = refl

pub change-is : (board : Board) (h : List Deed) (deed : Deed)
    → change_by board h deed ≡ change_in board (pending_sets board h) deed
change-is board h deed = ap (λ done. option_or (reported deed.event)
    (change_of board (added_success board deed) done)) (completed_is board h deed.event)

pub pending-next : (board : Board) (h : List Deed) (e : Event)
    → advances h ≤ length (accepted_sets board h)
    → pending_sets board (h ++ deed_after board h e ∷ [])
    ≡ pending_next board (pending_sets board h) (deed_after board h e)
pending-next board h (Command a (Good m)) enough =
    pending_sets-push board h (deed_after board h (Command a (Good m))) refl enough
pending-next board h (Command a (Malformed len header)) enough =
    pending_sets-push board h (deed_after board h (Command a (Malformed len header))) refl enough
pending-next board h (CommandFailed a (Good m) fault) enough =
    pending_sets-push board h (deed_after board h (CommandFailed a (Good m) fault)) refl enough
pending-next board h (CommandFailed a (Malformed len header) fault) enough = pending_sets-push board
    h (deed_after board h (CommandFailed a (Malformed len header) fault)) refl enough
pending-next board h (Sent a) enough =
    pending_sets-push board h (deed_after board h (Sent a)) refl enough
pending-next board h (Restarted a) enough =
    pending_sets-push board h (deed_after board h (Restarted a)) refl enough
pending-next board h (Promoted place) enough =
    pending_sets-push board h (deed_after board h (Promoted place)) refl enough
pending-next board h (Settled clock rate) enough =
    pending_sets-push board h (deed_after board h (Settled clock rate)) refl enough
pending-next board h (Reported effect) enough =
    pending_sets-push board h (deed_after board h (Reported effect)) refl enough
pending-next board h Advance enough = pending_sets-advance board h
pending-next board h (AdvanceFailed fault) enough = pending_sets-failed board h fault

module _ (board : Board) (b : ℕ) (h : List Deed) where
  abbrev stood : Situation
  stood = situation_after board b h

  -- what the event makes for the agent follows as well
  pub made-next : (e : Event) → advances h ≤ length (accepted_sets board h)
      → made_by board b h (messages_made board b h) (deed_after board h e)
      ≡ made_next board b stood (deed_after board h e)
  made-next e enough =
      let deed = deed_after board h e in
      ap (λ left. option_map_or (failed_response_for b (fault_in deed.event)) (failed_set
      board h deed.event) [] ++ made_in b stood left (completed_set board h deed.event)
      (change_by board h deed)) (pending-next board h e enough)
      ∙ ap (λ failed. option_map_or (failed_response_for b (fault_in deed.event)) failed []
      ++ made_in b stood (pending_next board stood.pending deed) (completed_set board h
      deed.event) (change_by board h deed)) (failed_is board h deed.event)
      ∙ ap (λ done. option_map_or (failed_response_for b (fault_in deed.event)) (failed_in
      stood.pending deed.event) [] ++ made_in b stood (pending_next board stood.pending deed)
      done (option_or (reported deed.event) (change_of board (added_success board deed) done)))
      (completed_is board h deed.event)

  pub messages-next : (e : Event) → advances h ≤ length (accepted_sets board h)
      → messages_made board b (h ++ deed_after board h e ∷ [])
      ≡ messages_left (sent_count b h) (is_restart_of b (deed_after board h e).event)
      (messages_made board b h) ++ made_next board b stood (deed_after board h e)
  messages-next e enough =
      messages_made-push board b h (deed_after board h e)
      ∙ ap (λ ms. messages_left (sent_count b h) (is_restart_of b (deed_after board h e).event)
      (messages_made board b h) ++ ms) (made-next e enough)

  unsent : (e : Event) → is_sent_by b (deed_after board h e).event ≡ false → advances h
      ≤ length (accepted_sets board h) → sent_count b h ≤ length (messages_made board b h)
      → outbox_after board b (h ++ deed_after board h e ∷ [])
      ≡ (if is_restart_of b (deed_after board h e).event then [] else stood.outbox)
      ++ made_next board b stood (deed_after board h e)
  unsent e other enough enough_sent =
      outbox-push board b h (deed_after board h e) other enough_sent
      ∙ ap (λ ms. (if is_restart_of b (deed_after board h e).event then [] else stood.outbox) ++ ms)
      (made-next e enough)

  posted : (c : ℕ) → outbox_after board b (h ++ deed_after board h (Sent c) ∷ [])
      ≡ drop (sent_count b h + (if b == c then 1 else 0)) (messages_made board b h)
  posted c =
      let deed : Deed = record { event = Sent c; reply = [] } in
      ap (drop (sent_count b (h ++ deed ∷ []))) (messages_made-sent board b h c)
      ∙ ap (λ n. drop n (messages_made board b h)) (sent_count-push b h deed)

  outbox-next : (e : Event) → advances h ≤ length (accepted_sets board h)
      → sent_count b h ≤ length (messages_made board b h)
      → outbox_after board b (h ++ deed_after board h e ∷ [])
      ≡ (next board b stood (deed_after board h e)).outbox
  outbox-next (Command a (Good m)) enough enough_sent =
      unsent (Command a (Good m)) refl enough enough_sent
  outbox-next (Command a (Malformed len header)) enough enough_sent =
      unsent (Command a (Malformed len header)) refl enough enough_sent
  outbox-next (CommandFailed a (Good m) fault) enough enough_sent =
      unsent (CommandFailed a (Good m) fault) refl enough enough_sent
  outbox-next (CommandFailed a (Malformed len header) fault) enough enough_sent =
      unsent (CommandFailed a (Malformed len header) fault) refl enough enough_sent
  outbox-next Advance enough enough_sent = unsent Advance refl enough enough_sent
  outbox-next (AdvanceFailed fault) enough enough_sent =
      unsent (AdvanceFailed fault) refl enough enough_sent
  outbox-next (Restarted c) enough enough_sent = unsent (Restarted c) refl enough enough_sent
  outbox-next (Promoted place) enough enough_sent = unsent (Promoted place) refl enough enough_sent
  outbox-next (Settled clock rate) enough enough_sent =
      unsent (Settled clock rate) refl enough enough_sent
  outbox-next (Reported effect) enough enough_sent =
      unsent (Reported effect) refl enough enough_sent
  outbox-next (Sent c) enough enough_sent = posted c ∙ by (b == c) where
    none : made_in b stood (stood.pending ++ []) None None ≡ []
    none = nothing-made b stood (stood.pending ++ [])

    by : (own : _) → drop (sent_count b h + (if own then 1 else 0)) (messages_made board b h)
        ≡ (if own then drop 1 stood.outbox
        else stood.outbox ++ made_in b stood (stood.pending ++ []) None None)
    by true = sym (drop-drop 1 (sent_count b h) (messages_made board b h))
    by false =
        let zero_more : sent_count b h + 0 ≡ sent_count b h = omega arith in
        ap (λ n. drop n (messages_made board b h)) zero_more ∙ sym (append-nil stood.outbox)
        ∙ ap (λ ms. stood.outbox ++ ms) (sym none)

  pub situation-next : (e : Event) → advances h ≤ length (accepted_sets board h)
      → sent_count b h ≤ length (messages_made board b h)
      → situation_after board b (h ++ deed_after board h e ∷ [])
      ≡ next board b stood (deed_after board h e)
  situation-next e enough enough_sent =
      let deed = deed_after board h e in
      λ i.
      record {
        value = λ x. (value-push board x h deed ∙ ap (λ change. unwrap_or
            (option_and_then (value_in x) change) (stood.value x)) (change-is board h deed)) i;
        allowed = λ d scope. has_permission-push board b d scope h deed i;
        subscribed = λ d. is_subscriber-push board b d h deed i;
        pending = pending-next board h e enough i;
        outbox = outbox-next e enough enough_sent i;
      }

-- agents in the same situation see one event alike
pub deed-same : (board : Board) (h k : List Deed) (e : Event) → ((a : ℕ) → situation_after board a h
    ≡ situation_after board a k) → deed_after board h e ≡ deed_after board k e
deed-same board h k (Command a (Good m)) same =
    ap (λ s. record { event = Command a (Good m); reply = words_given board a s m }) (same a)
deed-same board h k (Command a (Malformed len header)) same = refl
deed-same board h k (CommandFailed a (Good m) fault) same = refl
deed-same board h k (CommandFailed a (Malformed len header) fault) same = refl
deed-same board h k Advance same = refl
deed-same board h k (AdvanceFailed fault) same = refl
deed-same board h k (Sent a) same = refl
deed-same board h k (Restarted a) same = refl
deed-same board h k (Promoted place) same = refl
deed-same board h k (Settled clock rate) same = refl
deed-same board h k (Reported effect) same = refl
