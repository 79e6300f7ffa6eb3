-- A command that was refused or only reads moves nobody, and a history without those of one agent
-- is the same to all others.
use Rattle.std.proofs.Common.{◌≡◌, ◌≢◌, ℕ, ◌+◌, ◌<◌, ◌==◌, ◌&&◌, ◌||◌, Bool, true, false, not, List, [], ◌∷◌, ◌++◌, length, take, drop, Option, Some, None, option_map, unwrap_or, refl, sym, ap, ◌∙◌, subst, if◌then◌else◌}
use Rattle.std.specs.Prelude.{IfSome, Result, Ok, Err}
use Rattle.std.specs.List.{cons_option}
use Rattle.std.specs.Option.{is_some, option_and_then, option_map_or, option_or, option_to_list}
use Rattle.std.proofs.lemmas.List.{append-nil, length-take-le}
use Rattle.std.proofs.lemmas.List.Elements.{filter_map-append}
use Rattle.std.proofs.lemmas.Bool.{eqb-true}
use Rattle.scmi_codec.specs.Header.{HeaderFields}
use Rattle.scmi_codec.specs.Payload.{begins_with_success}
use Rattle.scmi_codec.specs.declared.status.Status.{Status}
use Rattle.scmi_codec.specs.declared.command.Command as codec
use Rattle.scmi_codec.specs.declared.frame.Frame.{Frame}
use Rattle.scmi_codec.specs.declared.frame.Frame.TheVariants.{Good, Malformed}
use Rattle.scmi_plan.specs.Board.{Board}
use Rattle.scmi_plan.specs.declared.resource.Resource.TheVariants as resource
use Rattle.scmi_plan.specs.declared.scope.Scope.{Scope}
use Rattle.scmi_core.specs.declared.event.Event.{Event}
use Rattle.scmi_core.specs.declared.event.Event.TheVariants.{Command, Advance, Sent, CommandFailed, AdvanceFailed, Restarted, Promoted, Settled, Reported}
use Rattle.scmi_core.specs.declared.pending_set.PendingSet.{PendingSet}
use Rattle.scmi_core.specs.Agents.{answer_for, frame_from, frames_of}
use Rattle.scmi_core.specs.Deed.{Deed, Success, fold_with_prefix, restarted_by, success_with}
use Rattle.scmi_core.specs.Effect.{effect_of}
use Rattle.scmi_core.specs.History.{deed_after, deeds, delivered_messages, made_for, outbox}
use Rattle.scmi_core.specs.Laws.{AreAlikeBut}
use Rattle.scmi_core.specs.Legal.{CanFollow, IsLegal}
use Rattle.scmi_core.specs.Outbox.{failed_response_for, is_restart_of, is_sent_by, made_in, messages_left, messages_made, sent_count}
use Rattle.scmi_core.specs.Pending.{acceptance, has_set_of, is_advance, pending_change, pending_left, pending_sets}
use Rattle.scmi_core.specs.Commands.{permission_in}
use Rattle.scmi_core.specs.ReadCommand.{command_on}
use Rattle.scmi_core.specs.Reply.{answer_in}
use Rattle.scmi_core.specs.Situation.{Situation}
use Rattle.scmi_core.specs.Subscriptions.{subscription, subscription_after_reset}
use Rattle.scmi_core.specs.Value.{change_now, change_of, changes, fault_in, reported, value_in}
use Rattle.scmi_core.proofs.Deeds.{IsLegal-push, added_success, fold_with_prefix-push}
use Rattle.scmi_core.proofs.Following.{change-is, change_in, completed_in, deed-same, failed_in, made_next, next, pending_next}
use Rattle.scmi_core.proofs.Isolation.{answers-push, refused}
use Rattle.scmi_core.proofs.Laws.{answers_other, delivered_kept, frames_other}
use Rattle.scmi_core.proofs.Legal.{Grown, IsLegal-front, IsLegal-last, IsLegal-nil, deed-event, empty, grow, grown, sent_le-made}
use Rattle.scmi_core.proofs.Situations.{nothing-made}
use Rattle.scmi_laws.specs.Others.{situation_of}
use Rattle.scmi_laws.specs.Reads.{DoesNothing, HasQuietReads, is_quiet, is_read_frame, only_reads, without_quiet}
use Rattle.scmi_laws.proofs.Added.{changed-more, made-more, sent-more, situation-more, unsuccessful}
use Rattle.scmi_laws.proofs.Harmless.{harmless}

-- A QUIET COMMAND

-- what no success that does nothing says is not said
unsaid : (board : Board) {T : Type 0} (says : Success → Option T)
    → ((s : Success) → DoesNothing board s → says s ≡ None)
    → (success : Option Success) → IfSome success (DoesNothing board)
    → option_and_then says success ≡ None
unsaid board says silent None nothing = refl
unsaid board says silent (Some s) nothing = silent s nothing

-- a command changes nothing and makes nothing for an agent, if its success, if it is one, does
-- nothing
module _ (board : Board) (b : ℕ) (s : Situation) (deed : Deed) (c : ℕ) (frame : Frame)
    (event : deed.event ≡ Command c frame)
    (nothing : IfSome (added_success board deed) (DoesNothing board)) where
  abbrev success : Option Success
  success = added_success board deed

  abbrev left : List PendingSet
  left = pending_next board s.pending deed

  no-change : change_in board s.pending deed ≡ None
  no-change =
      ap (λ it. option_or (reported it) (change_of board success (completed_in s.pending it))) event
      ∙ unsaid board (change_now board) (λ it silent. silent.change) success nothing

  same-pending : left ≡ s.pending
  same-pending =
      let no-set = unsaid board (acceptance board) (λ it silent. silent.set) success nothing in
      (λ i.
      if is_advance (event i) then drop 1 s.pending
      else pending_left (pending_change (event i)) s.pending ++ option_to_list (no-set i))
      ∙ append-nil s.pending

  nothing-next : made_next board b s deed ≡ []
  nothing-next =
      ap (λ it. option_map_or (failed_response_for b (fault_in it)) (failed_in s.pending it) []
      ++ made_in b s left (completed_in s.pending it) (change_in board s.pending deed)) event
      ∙ ap (made_in b s left None) no-change
      ∙ nothing-made b s left

  same-outbox : (next board b s deed).outbox ≡ s.outbox
  same-outbox =
      (λ i.
      if is_sent_by b (event i) then drop 1 s.outbox
      else (if is_restart_of b (event i) then [] else s.outbox) ++ nothing-next i)
      ∙ append-nil s.outbox

  next-same : next board b s deed ≡ s
  next-same =
      let permission = λ (d : ℕ) (scope : Scope).
      unsaid board (λ it. permission_in board b d scope it.command)
      (λ it silent. silent.permission b d scope) success nothing in
      let request = λ (d : ℕ).
      unsaid board (subscription b d) (λ it silent. silent.subscription b d) success nothing in
      λ i.
      record {
        value = λ x. unwrap_or (option_and_then (value_in x) (no-change i)) (s.value x);
        allowed = λ d scope. unwrap_or (permission d scope i) (s.allowed d scope);
        subscribed = λ d.
            let reset = subscription_after_reset b (restarted_by (event i)) in
            unwrap_or (option_or reset (request d i)) (s.subscribed d);
        pending = same-pending i;
        outbox = same-outbox i;
      }

-- whose a command is that was refused or reads
own_true : (board : Board) (own refused : Bool) (frame : Frame)
    → (is_some (if own then Some frame else None) && refused
    || option_map_or (is_read_frame board) (if own then Some frame else None) false) ≡ true
    → (own ≡ true) × ((refused || is_read_frame board frame) ≡ true)
own_true board true refused frame is = (refl, is)
own_true board false refused frame is = absurd (cc)

-- and one that failed, which is refused
own_refused : (board : Board) (own refused : Bool) (frame : Frame) → refused ≡ true
    → (is_some (if own then Some frame else None) && refused
    || option_map_or (is_read_frame board) (if own then Some frame else None) false) ≡ true
    → (is_some (if own then Some frame else None) && refused) ≡ true
own_refused board true refused frame so is = so
own_refused board false refused frame so is = absurd (cc)

-- its success, if it is one, does nothing
module _ (board : Board) (c : ℕ) where
  success-nothing : (header : HeaderFields) (r : Result codec.Command Status) (succeeds : Bool)
      → (not succeeds || only_reads r) ≡ true
      → IfSome (if succeeds then success_with c header r else None) (DoesNothing board)
  success-nothing header r false is = tt
  success-nothing header (Ok command) true is =
      harmless board (record { caller = c; header = header; command = command }) is
  success-nothing header (Err e) true is = tt

  command-nothing : (before : List Deed) (frame : Frame)
      → (not (begins_with_success (deed_after board before (Command c frame)).reply)
      || is_read_frame board frame) ≡ true
      → IfSome (added_success board (deed_after board before (Command c frame))) (DoesNothing board)
  command-nothing before (Good m) is = success-nothing m.header (command_on board m) _ is
  command-nothing before (Malformed len header) is = tt

-- one quiet event more
pub read : (board : Board) (h : List Event) (a : ℕ) (e : Event) → IsLegal board h
    → is_quiet board a h e ≡ true → AreAlikeBut board a (h ++ e ∷ []) h
unfolding made_for
read board h a (Command c frame) legal is =
    let e = Command c frame in
    let ds = deeds board h in
    let deed = deed_after board ds e in
    let own = own_true board (a == c) _ frame is in
    let same = eqb-true a c own.0 in
    let event = deed-event board ds e in
    let nothing = command-nothing board c ds frame own.1 in
    record {
      frames = λ b other. frames_other b c h frame (subst (λ x. b ≢ x) same other);
      answers = λ b other. answers_other board b c h frame (subst (λ x. b ≢ x) same other);
      made = λ b.
          let none = nothing-next board b (situation_of board b h) deed c frame event nothing in
          made-more board h e legal b
          ∙ (λ i.
          messages_left (sent_count b ds) (is_restart_of b (event i)) (messages_made board b ds)
          ++ none i)
          ∙ append-nil (messages_made board b ds);
      delivered = λ b. delivered_kept board b h e legal refl;
      changed =
          let none = no-change board 0 (situation_of board 0 h) deed c frame event nothing in
          changed-more board h e legal
          ∙ ap (λ change. changes board ds ++ option_to_list change) none
          ∙ append-nil (changes board ds);
      situations = λ b.
          situation-more board h e legal b
          ∙ next-same board b (situation_of board b h) deed c frame event nothing;
    }
read board h a (CommandFailed c (Good m) fault) legal is =
    let e = CommandFailed c (Good m) fault in
    refused board h a e legal (own_refused board (a == c) _ (Good m) (unsuccessful fault) is)
read board h a (CommandFailed c (Malformed len header) fault) legal is =
    let frame = Malformed len header in
    let e = CommandFailed c frame fault in
    refused board h a e legal (own_refused board (a == c) true frame refl is)
read board h a Advance legal is = absurd (cc)
read board h a (AdvanceFailed fault) legal is = absurd (cc)
read board h a (Sent c) legal is = absurd (cc)
read board h a (Restarted c) legal is = absurd (cc)
read board h a (Promoted place) legal is = absurd (cc)
read board h a (Settled clock rate) legal is = absurd (cc)
read board h a (Reported effect) legal is = absurd (cc)

-- THE SAME EVENT AFTER TWO HISTORIES

module _ (board : Board) (h k : List Event)
    (same : (c : ℕ) → situation_of board c h ≡ situation_of board c k) where
  one-deed : (e : Event) → deed_after board (deeds board h) e ≡ deed_after board (deeds board k) e
  one-deed e = deed-same board (deeds board h) (deeds board k) e same

  one-change : (e : Event)
      → change_in board (pending_sets board (deeds board h)) (deed_after board (deeds board h) e)
      ≡ change_in board (pending_sets board (deeds board k)) (deed_after board (deeds board k) e)
  one-change e = λ i. change_in board (same 0 i).pending (one-deed e i)

  one-answer : (b : ℕ) (e : Event) → answer_for board b h e ≡ answer_for board b k e
  one-answer b (Command c frame) =
      ap (λ s. if b == c then answer_in board c frame s ∷ [] else []) (same c)
  one-answer b (CommandFailed c frame fault) = refl
  one-answer b Advance = refl
  one-answer b (AdvanceFailed fault) = refl
  one-answer b (Sent c) = refl
  one-answer b (Restarted c) = refl
  one-answer b (Promoted place) = refl
  one-answer b (Settled clock rate) = refl
  one-answer b (Reported effect) = refl

  both-follow : (e : Event) → CanFollow board k e → CanFollow board h e
  unfolding outbox
  both-follow (Command c frame) follows = follows
  both-follow (CommandFailed c frame fault) follows =
      let e = Command c frame in
      let of_h = change-is board (deeds board h) (deed_after board (deeds board h) e) in
      let of_k = change-is board (deeds board k) (deed_after board (deeds board k) e) in
      let change = of_k ∙ sym (one-change e) ∙ sym of_h in
      (follows.0, subst (λ it. option_map effect_of it ≢ None) change follows.1)
  both-follow (Restarted c) follows = follows
  both-follow (Reported effect) follows = follows
  both-follow Advance follows = subst (λ s. 0 < length s.pending) (sym (same 0)) follows
  both-follow (AdvanceFailed fault) follows =
      subst (λ s. 0 < length s.pending) (sym (same 0)) follows
  both-follow (Promoted place) follows =
      subst (λ s. place < length s.pending) (sym (same 0)) follows
  both-follow (Settled clock rate) follows = (
    follows.0,
    follows.1,
    subst (λ s. has_set_of (resource.Clock clock) s.pending ≡ true) (sym (same 0)) follows.2,
  )
  both-follow (Sent c) follows =
      (follows.0, follows.1, subst (λ s. 0 < length s.outbox) (sym (same c)) follows.2)

frames-push : (b : ℕ) (h : List Event) (e : Event)
    → frames_of b (h ++ e ∷ []) ≡ frames_of b h ++ cons_option (frame_from b e) []
unfolding frames_of
frames-push b h e = filter_map-append (frame_from b) h (e ∷ [])

-- as many messages were posted, if the same ones were
sent-same : (board : Board) (b : ℕ) (h k : List Event) → IsLegal board h → IsLegal board k
    → delivered_messages board b h ≡ delivered_messages board b k
    → sent_count b (deeds board h) ≡ sent_count b (deeds board k)
unfolding delivered_messages
sent-same board b h k legal legal' same =
    let count = λ (xs : List Event) (is : IsLegal board xs).
    length-take-le (sent_count b (deeds board xs)) (messages_made board b (deeds board xs))
    (sent_le-made board xs is b) in
    sym (count h legal) ∙ ap length same ∙ count k legal'

alike-more : (board : Board) (a : ℕ) (h k : List Event) (e : Event) → IsLegal board h
    → IsLegal board k → AreAlikeBut board a h k → AreAlikeBut board a (h ++ e ∷ []) (k ++ e ∷ [])
unfolding made_for delivered_messages
alike-more board a h k e legal legal' had =
    let one = one-deed board h k had.situations e in
    let sent = λ (b : ℕ). sent-same board b h k legal legal' (had.delivered b) in
    let made = λ (b : ℕ).
    made-more board h e legal b
    ∙ (λ i.
    messages_left (sent b i) (is_restart_of b (one i).event) (had.made b i)
    ++ made_next board b (had.situations b i) (one i))
    ∙ sym (made-more board k e legal' b) in
    let sent_more = λ (b : ℕ).
    sent-more board h e legal b
    ∙ (λ i. sent b i + (if is_sent_by b (one i).event then 1 else 0))
    ∙ sym (sent-more board k e legal' b) in
    record {
      frames = λ b other.
          frames-push b h e
          ∙ ap (λ fs. fs ++ cons_option (frame_from b e) []) (had.frames b other)
          ∙ sym (frames-push b k e);
      answers = λ b other.
          answers-push board b h e
          ∙ (λ i. had.answers b other i ++ one-answer board h k had.situations b e i)
          ∙ sym (answers-push board b k e);
      made = made;
      delivered = λ b i. take (sent_more b i) (made b i);
      changed =
          changed-more board h e legal
          ∙ (λ i. had.changed i ++ option_to_list (one-change board h k had.situations e i))
          ∙ sym (changed-more board k e legal');
      situations = λ b.
          situation-more board h e legal b
          ∙ (λ i. next board b (had.situations b i) (one i))
          ∙ sym (situation-more board k e legal' b);
    }

-- a quiet event is left out
alike-less : (board : Board) (a : ℕ) (h k l : List Event) → AreAlikeBut board a h k
    → AreAlikeBut board a l k → AreAlikeBut board a h l
alike-less board a h k l had more = record {
  frames = λ b other. had.frames b other ∙ sym (more.frames b other);
  answers = λ b other. had.answers b other ∙ sym (more.answers b other);
  made = λ b. had.made b ∙ sym (more.made b);
  delivered = λ b. had.delivered b ∙ sym (more.delivered b);
  changed = had.changed ∙ sym more.changed;
  situations = λ b. had.situations b ∙ sym (more.situations b);
}

-- A HISTORY WITHOUT THE QUIET COMMANDS OF AN AGENT

without-push : (board : Board) (a : ℕ) (h : List Event) (e : Event)
    → without_quiet board a (h ++ e ∷ [])
    ≡ without_quiet board a h ++ (if is_quiet board a h e then [] else e ∷ [])
unfolding without_quiet
without-push board a h e =
    fold_with_prefix-push
    (λ before so_far event. so_far ++ (if is_quiet board a before event then [] else event ∷ []))
    [] [] h e

-- a legal history is the same to all agents but a as another
abbrev IsAlso : Board → ℕ → (h k : List Event) → Type 0
IsAlso board a h k = IsLegal board h × AreAlikeBut board a h k

-- and so with one more event, left out or not
without-more : (board : Board) (a : ℕ) (h k : List Event) (e : Event) → IsLegal board k
    → CanFollow board k e → IsAlso board a h k → (quiet : Bool) → is_quiet board a k e ≡ quiet
    → IsAlso board a (h ++ (if quiet then [] else e ∷ [])) (k ++ e ∷ [])
without-more board a h k e legal follows had true is =
    subst (λ w. IsAlso board a w (k ++ e ∷ [])) (sym (append-nil h))
    (had.0, alike-less board a h k (k ++ e ∷ []) had.1 (read board k a e legal is))
without-more board a h k e legal follows had false is =
    let follows' = both-follow board h k had.1.situations e follows in
    (IsLegal-push board h e had.0 follows', alike-more board a h k e had.0 legal had.1)

without : (board : Board) (a : ℕ) {h : List Event} → Grown h → IsLegal board h
    → IsAlso board a (without_quiet board a h) h
unfolding without_quiet fold_with_prefix
without board a empty legal = (
  IsLegal-nil board,
  record {
    frames = λ b other. refl;
    answers = λ b other. refl;
    made = λ b. refl;
    delivered = λ b. refl;
    changed = refl;
    situations = λ b. refl;
  },
)
without board a (grow {xs} g e) legal =
    let front = IsLegal-front board xs e legal in
    let follows = IsLegal-last board xs e legal in
    subst (λ w. IsAlso board a w (xs ++ e ∷ [])) (sym (without-push board a xs e))
    (without-more board a (without_quiet board a xs) xs e front follows (without board a g front)
    (is_quiet board a xs e) refl)

pub isolation : (board : Board) (h : List Event) → IsLegal board h → HasQuietReads board h
isolation board h legal = record {
  legal = λ a. (without board a (grown h) legal).0;
  alike = λ a. (without board a (grown h) legal).1;
}
