-- A refused command moves nobody, and a history without the refused commands of one agent is the
-- same to all others.
use Rattle.std.proofs.Common.{◌≡◌, ◌≢◌, ◌⊎◌, inl, inr, ℕ, ◌+◌, ◌<◌, ◌==◌, ◌&&◌, Bool, true, false, not, List, [], ◌∷◌, ◌++◌, length, take, drop, Some, None, option_map, unwrap_or, refl, sym, ap, ◌∙◌, subst, arith, if◌then◌else◌}
use Rattle.std.specs.List.{cons_option}
use Rattle.std.specs.Option.{is_some, option_and_then, option_map_or, option_or, option_to_list}
use Rattle.std.proofs.lemmas.List.{append-nil}
use Rattle.std.proofs.lemmas.List.Elements.{filter_map-append}
use Rattle.std.proofs.lemmas.Bool.{cases_Bool, eqb-true}
use Rattle.scmi_codec.specs.Payload.{begins_with_success}
use Rattle.scmi_codec.specs.declared.frame.Frame.{Frame}
use Rattle.scmi_codec.specs.declared.frame.Frame.TheVariants.{Good, Malformed}
use Rattle.scmi_plan.specs.Board.{Board}
use Rattle.scmi_plan.specs.declared.resource.Resource.TheVariants as resource
use Rattle.scmi_core.specs.declared.event.Event.{Event}
use Rattle.scmi_codec.specs.declared.fault.Fault.{Fault}
use Rattle.scmi_core.specs.declared.event.Event.TheVariants.{Command, Advance, Sent, CommandFailed, AdvanceFailed, Restarted, Promoted, Settled, Reported}
use Rattle.scmi_core.specs.declared.pending_set.PendingSet.{PendingSet}
use Rattle.scmi_core.specs.Agents.{answer_for, answers_to, frame_from, frames_of}
use Rattle.scmi_core.specs.Deed.{Deed, fold_with_prefix, restarted_by, success_with}
use Rattle.scmi_core.specs.Effect.{effect_of}
use Rattle.scmi_core.specs.History.{deed_after, deeds, delivered_messages, made_for, outbox}
use Rattle.scmi_core.specs.Laws.{AreAlikeBut, HasIsolation, is_refused, without_refused}
use Rattle.scmi_core.specs.Legal.{CanFollow, IsLegal}
use Rattle.scmi_core.specs.Outbox.{failed_response_for, is_restart_of, is_sent_by, made_in, messages_left, messages_made, sent_count, situation_after}
use Rattle.scmi_core.specs.Pending.{acceptance, has_set_of, is_advance, pending_change, pending_left, pending_sets}
use Rattle.scmi_core.specs.Commands.{permission_in}
use Rattle.scmi_core.specs.ReadCommand.{command_on}
use Rattle.scmi_core.specs.Reply.{answer_in}
use Rattle.scmi_core.specs.Situation.{Situation}
use Rattle.scmi_core.specs.Subscriptions.{subscription, subscription_after_reset}
use Rattle.scmi_core.specs.Value.{change_by, change_of, changes, fault_in, reported, value_in}
use Rattle.scmi_core.proofs.Deeds.{IsLegal-push, added_success, changes-push, fold_with_prefix-push, sent_count-push}
use Rattle.scmi_core.proofs.Following.{change-is, change_in, completed_in, deed-same, failed_in, made_next, messages-next, next, pending_next, situation-next}
use Rattle.scmi_core.proofs.Laws.{answers_failed_other, answers_other, frames_failed_other, frames_other}
use Rattle.scmi_core.proofs.Legal.{Grown, IsLegal-front, IsLegal-last, IsLegal-nil, advances_le-accepted, deeds-push, empty, grow, grown, sent_le-made}
use Rattle.scmi_core.proofs.Situations.{nothing-made}

-- A COMMAND THAT WAS REFUSED

-- a deed that succeeds in nothing, ends no set, posts nothing, restarts no agent, changes no
-- pending set and reports no change
record IsIdleDeed (board : Board) (deed : Deed) : Type 0 where
  pub no_success : added_success board deed ≡ None
  pub stays : is_advance deed.event ≡ false
  pub unsent : (b : ℕ) → is_sent_by b deed.event ≡ false
  pub uncompleted : (pending : List PendingSet) → completed_in pending deed.event ≡ None
  pub unfailed : (pending : List PendingSet) → failed_in pending deed.event ≡ None
  pub unrestarted : restarted_by deed.event ≡ None
  pub unchanged : pending_change deed.event ≡ None
  pub unreported : reported deed.event ≡ None

-- it changes nothing, and makes nothing for an agent
module _ (board : Board) (b : ℕ) (s : Situation) (deed : Deed) (idle : IsIdleDeed board deed) where
  no-change : change_in board s.pending deed ≡ None
  no-change =
      ap (λ said. option_or said (change_of board (added_success board deed)
      (completed_in s.pending deed.event))) idle.unreported
      ∙ ap (λ success. change_of board success (completed_in s.pending deed.event)) idle.no_success
      ∙ ap (change_of board None) (idle.uncompleted s.pending)

  same-pending : pending_next board s.pending deed ≡ s.pending
  same-pending =
      ap (λ ends. if ends then drop 1 s.pending
      else pending_left (pending_change deed.event) s.pending ++ option_to_list
      (option_and_then (acceptance board) (added_success board deed))) idle.stays
      ∙ ap (λ change. pending_left change s.pending ++ option_to_list
      (option_and_then (acceptance board) (added_success board deed))) idle.unchanged
      ∙ ap (λ success. s.pending ++ option_to_list (option_and_then (acceptance board) success))
      idle.no_success
      ∙ append-nil s.pending

  nothing-next : made_next board b s deed ≡ []
  nothing-next =
      ap (λ failed. option_map_or (failed_response_for b (fault_in deed.event)) failed []
      ++ made_in b s (pending_next board s.pending deed) (completed_in s.pending deed.event)
      (change_in board s.pending deed)) (idle.unfailed s.pending)
      ∙ ap (made_in b s (pending_next board s.pending deed) (completed_in s.pending deed.event))
      no-change
      ∙ ap (λ done. made_in b s (pending_next board s.pending deed) done None)
      (idle.uncompleted s.pending)
      ∙ nothing-made b s (pending_next board s.pending deed)

  same-outbox : (next board b s deed).outbox ≡ s.outbox
  same-outbox =
      ap (λ own. if own then drop 1 s.outbox else (if is_restart_of b deed.event then []
      else s.outbox) ++ made_next board b s deed) (idle.unsent b)
      ∙ ap (λ restarted. (if option_map_or (λ c. b == c) restarted false then [] else s.outbox)
      ++ made_next board b s deed) idle.unrestarted
      ∙ ap (λ ms. s.outbox ++ ms) nothing-next
      ∙ append-nil s.outbox

  next-same : next board b s deed ≡ s
  next-same = λ i.
      record {
        value = λ x. ap
            (λ change. unwrap_or (option_and_then (value_in x) change) (s.value x)) no-change i;
        allowed = λ d scope. ap (λ success. unwrap_or (option_and_then (λ it. permission_in board b
            d scope it.command) success) (s.allowed d scope)) idle.no_success i;
        subscribed = λ d.
            (ap (λ restarted. unwrap_or (option_or (subscription_after_reset b restarted)
            (option_and_then (subscription b d) (added_success board deed))) (s.subscribed d))
            idle.unrestarted
            ∙ ap (λ success. unwrap_or (option_and_then (subscription b d) success)
            (s.subscribed d)) idle.no_success) i;
        pending = same-pending i;
        outbox = same-outbox i;
      }

-- what an event leaves that moves nobody
record IsUnmoved (board : Board) (h k : List Event) : Type 0 where
  pub made : (b : ℕ) → messages_made board b (deeds board h) ≡ messages_made board b (deeds board k)
  pub sent : (b : ℕ) → sent_count b (deeds board h) ≡ sent_count b (deeds board k)
  pub changed : changes board (deeds board h) ≡ changes board (deeds board k)
  pub situations : (b : ℕ)
      → situation_after board b (deeds board h) ≡ situation_after board b (deeds board k)

idle-unmoved : (board : Board) (h : List Event) (e : Event) → IsLegal board h
    → IsIdleDeed board (deed_after board (deeds board h) e) → IsUnmoved board (h ++ e ∷ []) h
idle-unmoved board h e legal idle =
    let ds = deeds board h in
    let deed = deed_after board ds e in
    let enough = advances_le-accepted board h legal in
    record {
      made = λ b.
          ap (messages_made board b) (deeds-push board h e)
          ∙ messages-next board b ds e enough
          ∙ ap (λ restarted. messages_left (sent_count b ds)
          (option_map_or (λ c. b == c) restarted false) (messages_made board b ds)
          ++ made_next board b (situation_after board b ds) deed) idle.unrestarted
          ∙ ap (λ ms. messages_made board b ds ++ ms)
          (nothing-next board b (situation_after board b ds) deed idle)
          ∙ append-nil (messages_made board b ds);
      sent = λ b.
          let zero_more : sent_count b ds + 0 ≡ sent_count b ds = omega arith in
          ap (sent_count b) (deeds-push board h e) ∙ sent_count-push b ds deed
          ∙ ap (λ own. sent_count b ds + (if own then 1 else 0)) (idle.unsent b) ∙ zero_more;
      changed =
          ap (changes board) (deeds-push board h e)
          ∙ changes-push board ds deed
          ∙ ap (λ change. changes board ds ++ option_to_list change)
          (change-is board ds deed ∙ no-change board 0 (situation_after board 0 ds) deed idle)
          ∙ append-nil (changes board ds);
      situations = λ b.
          ap (situation_after board b) (deeds-push board h e)
          ∙ situation-next board b ds e enough (sent_le-made board h legal b)
          ∙ next-same board b (situation_after board b ds) deed idle;
    }

own_true : (own refused : Bool) (frame : Frame) → (is_some (if own then Some frame else None)
    && refused) ≡ true → (own ≡ true) × (refused ≡ true)
own_true true true frame is = (refl, refl)
own_true true false frame is = absurd (cc)
own_true false refused frame is = absurd (cc)

not_true : (b : Bool) → not b ≡ true → b ≡ false
not_true true is = absurd (cc)
not_true false is = refl

-- a refused command is such a deed, and another agent's
record Refused (board : Board) (a : ℕ) (h : List Event) (e : Event) : Type 0 where
  pub idle : IsIdleDeed board (deed_after board (deeds board h) e)
  pub frames : (b : ℕ) → b ≢ a → frames_of b (h ++ e ∷ []) ≡ frames_of b h
  pub answers : (b : ℕ) → b ≢ a → answers_to board b (h ++ e ∷ []) ≡ answers_to board b h

command-idle : (board : Board) (h : List Event) (c : ℕ) (frame : Frame)
    → begins_with_success (deed_after board (deeds board h) (Command c frame)).reply ≡ false
    → IsIdleDeed board (deed_after board (deeds board h) (Command c frame))
command-idle board h c (Good m) fails = record {
  no_success =
      ap (λ success. if success then success_with c m.header (command_on board m) else None) fails;
  stays = refl;
  unsent = λ b. refl;
  uncompleted = λ pending. refl;
  unfailed = λ pending. refl;
  unrestarted = refl;
  unchanged = refl;
  unreported = refl;
}
command-idle board h c (Malformed len header) fails =
    record {
      no_success = refl;
      stays = refl;
      unsent = λ b. refl;
      uncompleted = λ pending. refl;
      unfailed = λ pending. refl;
      unrestarted = refl;
      unchanged = refl;
      unreported = refl;
    }

failed-idle : (board : Board) (h : List Event) (c : ℕ) (frame : Frame) (fault : Fault)
    → IsIdleDeed board (deed_after board (deeds board h) (CommandFailed c frame fault))
failed-idle board h c (Good m) fault =
    record {
      no_success = refl;
      stays = refl;
      unsent = λ b. refl;
      uncompleted = λ pending. refl;
      unfailed = λ pending. refl;
      unrestarted = refl;
      unchanged = refl;
      unreported = refl;
    }
failed-idle board h c (Malformed len header) fault =
    record {
      no_success = refl;
      stays = refl;
      unsent = λ b. refl;
      uncompleted = λ pending. refl;
      unfailed = λ pending. refl;
      unrestarted = refl;
      unchanged = refl;
      unreported = refl;
    }

refusal : (board : Board) (a : ℕ) (h : List Event) (e : Event) → is_refused board a h e ≡ true
    → Refused board a h e
refusal board a h (Command c frame) is =
    let two = own_true (a == c) _ frame is in
    let same = eqb-true a c two.0 in
    record {
      idle = command-idle board h c frame (not_true _ two.1);
      frames = λ b other. frames_other b c h frame (subst (λ x. b ≢ x) same other);
      answers = λ b other. answers_other board b c h frame (subst (λ x. b ≢ x) same other);
    }
refusal board a h (CommandFailed c frame fault) is =
    let two = own_true (a == c) _ frame is in
    let same = eqb-true a c two.0 in
    record {
      idle = failed-idle board h c frame fault;
      frames = λ b other. frames_failed_other b c h frame fault (subst (λ x. b ≢ x) same other);
      answers =
          λ b other. answers_failed_other board b c h frame fault (subst (λ x. b ≢ x) same other);
    }
refusal board a h Advance is = absurd (cc)
refusal board a h (AdvanceFailed fault) is = absurd (cc)
refusal board a h (Sent c) is = absurd (cc)
refusal board a h (Restarted c) is = absurd (cc)
refusal board a h (Promoted place) is = absurd (cc)
refusal board a h (Settled clock rate) is = absurd (cc)
refusal board a h (Reported effect) is = absurd (cc)

-- THE SAME EVENT AFTER TWO HISTORIES

-- a legal history that is another's but for what agent a asked
record IsOtherwise (board : Board) (a : ℕ) (h k : List Event) : Type 0 where
  pub legal : IsLegal board h
  pub frames : (b : ℕ) → b ≢ a → frames_of b h ≡ frames_of b k
  pub answers : (b : ℕ) → b ≢ a → answers_to board b h ≡ answers_to board b k
  pub unmoved : IsUnmoved board h k

module _ (board : Board) (h k : List Event) (same : (c : ℕ)
    → situation_after board c (deeds board h) ≡ situation_after board c (deeds board k)) where
  one-deed : (e : Event) → deed_after board (deeds board h) e ≡ deed_after board (deeds board k) e
  one-deed e = deed-same board (deeds board h) (deeds board k) e same

  one-pending : pending_sets board (deeds board h) ≡ pending_sets board (deeds board k)
  one-pending = ap (λ s. s.pending) (same 0)

  one-change : (e : Event) → change_by board (deeds board h) (deed_after board (deeds board h) e)
      ≡ change_by board (deeds board k) (deed_after board (deeds board k) e)
  one-change e =
      change-is board (deeds board h) (deed_after board (deeds board h) e)
      ∙ ap (λ pending. change_in board pending (deed_after board (deeds board h) e)) one-pending
      ∙ ap (change_in board (pending_sets board (deeds board k))) (one-deed e)
      ∙ sym (change-is board (deeds board k) (deed_after board (deeds board k) e))

  one-answer : (b : ℕ) (e : Event) → answer_for board b h e ≡ answer_for board b k e
  one-answer b (Command c frame) =
      ap (λ s. if b == c then answer_in board c frame s ∷ [] else []) (same c)
  one-answer b (CommandFailed c frame fault) = refl
  one-answer b Advance = refl
  one-answer b (AdvanceFailed fault) = refl
  one-answer b (Sent c) = refl
  one-answer b (Restarted c) = refl
  one-answer b (Promoted place) = refl
  one-answer b (Settled clock rate) = refl
  one-answer b (Reported effect) = refl

  both-follow : (e : Event) → CanFollow board k e → CanFollow board h e
  unfolding outbox
  both-follow (Command c frame) follows = follows
  both-follow (CommandFailed c frame fault) follows = (
    follows.0,
    subst
        (λ change. option_map effect_of change ≢ None)
        (sym (one-change (Command c frame))) follows.1,
  )
  both-follow (Restarted c) follows = follows
  both-follow (Reported effect) follows = follows
  both-follow Advance follows = subst (λ pending. 0 < length pending) (sym one-pending) follows
  both-follow (AdvanceFailed fault) follows =
      subst (λ pending. 0 < length pending) (sym one-pending) follows
  both-follow (Promoted place) follows =
      subst (λ pending. place < length pending) (sym one-pending) follows
  both-follow (Settled clock rate) follows = (
    follows.0,
    follows.1,
    subst
        (λ pending. has_set_of (resource.Clock clock) pending ≡ true) (sym one-pending) follows.2,
  )
  both-follow (Sent c) follows =
      (follows.0, follows.1, subst (λ s. 0 < length s.outbox) (sym (same c)) follows.2)

pub answers-push : (board : Board) (b : ℕ) (h : List Event) (e : Event)
    → answers_to board b (h ++ e ∷ []) ≡ answers_to board b h ++ answer_for board b h e
unfolding answers_to
answers-push board b h e = fold_with_prefix-push
    (λ before so_far event. so_far ++ answer_for board b before event) [] [] h e

frames-push : (b : ℕ) (h : List Event) (e : Event)
    → frames_of b (h ++ e ∷ []) ≡ frames_of b h ++ cons_option (frame_from b e) []
unfolding frames_of
frames-push b h e = filter_map-append (frame_from b) h (e ∷ [])

unmoved-more : (board : Board) (h k : List Event) (e : Event) → IsLegal board h → IsLegal board k
    → IsUnmoved board h k → IsUnmoved board (h ++ e ∷ []) (k ++ e ∷ [])
unmoved-more board h k e legal legal' had =
    let hs = deeds board h in
    let ks = deeds board k in
    let deed = deed_after board hs e in
    let deed' = deed_after board ks e in
    let one = one-deed board h k had.situations e in
    let enough = advances_le-accepted board h legal in
    let enough' = advances_le-accepted board k legal' in
    record {
      made = λ b.
          ap (messages_made board b) (deeds-push board h e)
          ∙ messages-next board b hs e enough
          ∙ ap (λ n. messages_left n (is_restart_of b deed.event) (messages_made board b hs)
          ++ made_next board b (situation_after board b hs) deed) (had.sent b)
          ∙ ap (λ ms. messages_left (sent_count b ks) (is_restart_of b deed.event) ms
          ++ made_next board b (situation_after board b hs) deed) (had.made b)
          ∙ ap (λ s. messages_left (sent_count b ks) (is_restart_of b deed.event)
          (messages_made board b ks) ++ made_next board b s deed) (had.situations b)
          ∙ ap (λ d. messages_left (sent_count b ks) (is_restart_of b d.event)
          (messages_made board b ks) ++ made_next board b (situation_after board b ks) d) one
          ∙ sym (ap (messages_made board b) (deeds-push board k e)
          ∙ messages-next board b ks e enough');
      sent = λ b.
          ap (sent_count b) (deeds-push board h e)
          ∙ sent_count-push b hs deed
          ∙ ap (λ n. n + (if is_sent_by b deed.event then 1 else 0)) (had.sent b)
          ∙ ap (λ d. sent_count b ks + (if is_sent_by b d.event then 1 else 0)) one
          ∙ sym (ap (sent_count b) (deeds-push board k e) ∙ sent_count-push b ks deed');
      changed =
          ap (changes board) (deeds-push board h e)
          ∙ changes-push board hs deed
          ∙ ap (λ cs. cs ++ option_to_list (change_by board hs deed)) had.changed
          ∙ ap (λ change. changes board ks ++ option_to_list change)
          (one-change board h k had.situations e)
          ∙ sym (ap (changes board) (deeds-push board k e) ∙ changes-push board ks deed');
      situations = λ b.
          ap (situation_after board b) (deeds-push board h e)
          ∙ situation-next board b hs e enough (sent_le-made board h legal b)
          ∙ ap (λ s. next board b s deed) (had.situations b)
          ∙ ap (next board b (situation_after board b ks)) one
          ∙ sym (ap (situation_after board b) (deeds-push board k e)
          ∙ situation-next board b ks e enough' (sent_le-made board k legal' b));
    }

otherwise-more : (board : Board) (a : ℕ) (h k : List Event) (e : Event)
    → IsLegal board k → CanFollow board k e → IsOtherwise board a h k
    → IsOtherwise board a (h ++ e ∷ []) (k ++ e ∷ [])
otherwise-more board a h k e legal follows had = record {
  legal = IsLegal-push board h e had.legal (both-follow board h k had.unmoved.situations e follows);
  frames = λ b other. frames-push b h e ∙ ap (λ fs. fs ++ cons_option (frame_from b e) [])
      (had.frames b other) ∙ sym (frames-push b k e);
  answers = λ b other.
      answers-push board b h e
      ∙ ap (λ xs. xs ++ answer_for board b h e) (had.answers b other)
      ∙ ap (λ xs. answers_to board b k ++ xs) (one-answer board h k had.unmoved.situations b e)
      ∙ sym (answers-push board b k e);
  unmoved = unmoved-more board h k e had.legal legal had.unmoved;
}

-- a refused command is left out
otherwise-less : (board : Board) (a : ℕ) (h k : List Event) (e : Event) → IsLegal board k
    → Refused board a k e → IsOtherwise board a h k → IsOtherwise board a h (k ++ e ∷ [])
otherwise-less board a h k e legal refused had =
    let unmoved = idle-unmoved board k e legal refused.idle in
    record {
      legal = had.legal;
      frames = λ b other. had.frames b other ∙ sym (refused.frames b other);
      answers = λ b other. had.answers b other ∙ sym (refused.answers b other);
      unmoved = record {
        made = λ b. had.unmoved.made b ∙ sym (unmoved.made b);
        sent = λ b. had.unmoved.sent b ∙ sym (unmoved.sent b);
        changed = had.unmoved.changed ∙ sym unmoved.changed;
        situations = λ b. had.unmoved.situations b ∙ sym (unmoved.situations b);
      };
    }

-- A HISTORY WITHOUT THE REFUSED COMMANDS OF AN AGENT

without-push : (board : Board) (a : ℕ) (h : List Event) (e : Event) → without_refused board a
    (h ++ e ∷ []) ≡ without_refused board a h ++ (if is_refused board a h e then [] else e ∷ [])
unfolding without_refused
without-push board a h e = fold_with_prefix-push (λ before so_far event. so_far
    ++ (if is_refused board a before event then [] else event ∷ [])) [] [] h e

otherwise : (board : Board) (a : ℕ) {h : List Event} → Grown h → IsLegal board h
    → IsOtherwise board a (without_refused board a h) h
unfolding without_refused fold_with_prefix
otherwise board a empty legal = record {
  legal = IsLegal-nil board;
  frames = λ b other. refl;
  answers = λ b other. refl;
  unmoved = record { made = λ b. refl; sent = λ b. refl; changed = refl; situations = λ b. refl };
}
otherwise board a (grow {xs} g e) legal =
    let front = IsLegal-front board xs e legal in
    by_case front (IsLegal-last board xs e legal) (otherwise board a g front)
    (cases_Bool (is_refused board a xs e))
  where
    by_case : IsLegal board xs
        → CanFollow board xs e → IsOtherwise board a (without_refused board a xs) xs
        → (is_refused board a xs e ≡ true) ⊎ (is_refused board a xs e ≡ false)
        → IsOtherwise board a (without_refused board a (xs ++ e ∷ [])) (xs ++ e ∷ [])
    by_case front follows had (inl is) =
        let left = without-push board a xs e ∙ ap (λ refused. without_refused board a xs
        ++ (if refused then [] else e ∷ [])) is ∙ append-nil (without_refused board a xs) in
        subst (λ w. IsOtherwise board a w (xs ++ e ∷ [])) (sym left) (otherwise-less board a
        (without_refused board a xs) xs e front (refusal board a xs e is) had)
    by_case front follows had (inr is) =
        let left = without-push board a xs e
        ∙ ap (λ refused. without_refused board a xs ++ (if refused then [] else e ∷ [])) is in
        subst (λ w. IsOtherwise board a w (xs ++ e ∷ [])) (sym left)
        (otherwise-more board a (without_refused board a xs) xs e front follows had)

alike : (board : Board) (a : ℕ) (h k : List Event) → IsOtherwise board a h k
    → AreAlikeBut board a h k
unfolding made_for delivered_messages
alike board a h k is = record {
  frames = is.frames;
  answers = is.answers;
  made = is.unmoved.made;
  delivered = λ b.
      ap (λ n. take n (messages_made board b (deeds board h))) (is.unmoved.sent b)
      ∙ ap (take (sent_count b (deeds board k))) (is.unmoved.made b);
  changed = is.unmoved.changed;
  situations = is.unmoved.situations;
}

pub isolation : (board : Board) (h : List Event) → IsLegal board h → HasIsolation board h
isolation board h legal = record {
  legal = λ a. (otherwise board a (grown h) legal).legal;
  alike = λ a. alike board a (without_refused board a h) h (otherwise board a (grown h) legal);
}

pub refused : (board : Board) (h : List Event) (a : ℕ) (e : Event) → IsLegal board h
    → is_refused board a h e ≡ true → AreAlikeBut board a (h ++ e ∷ []) h
unfolding made_for delivered_messages
refused board h a e legal is =
    let it = refusal board a h e is in
    let unmoved = idle-unmoved board h e legal it.idle in
    record {
      frames = it.frames;
      answers = it.answers;
      made = unmoved.made;
      delivered = λ b.
          ap (λ n. take n (messages_made board b (deeds board (h ++ e ∷ [])))) (unmoved.sent b)
          ∙ ap (take (sent_count b (deeds board h))) (unmoved.made b);
      changed = unmoved.changed;
      situations = unmoved.situations;
    }
