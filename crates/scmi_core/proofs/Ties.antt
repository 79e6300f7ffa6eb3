-- Tables that agree with a history, and what one more event leaves of that.
use Rattle.std.proofs.Common.{◌≡◌, ◌≢◌, ◌⊎◌, inl, inr, ℕ, ◌+◌, ◌<◌, ◌≤◌, ◌==◌, Bool, true, false, List, [], ◌∷◌, ◌++◌, length, drop, get_or, map, slice_get, Option, None, Some, Err, option_map, unwrap_or, refl, sym, ap, ◌∙◌, subst, arith, if◌then◌else◌}
use Rattle.std.specs.List.{All}
use Rattle.std.proofs.lemmas.List.{append-nil, drop-drop}
use Rattle.std.proofs.lemmas.List.Elements.{All-map, All-weaker, All-nil, All-drop}
use Rattle.std.proofs.lemmas.Bool.{eq-eqb}
use Rattle.std.proofs.lemmas.Bool.Decides.{eqb_tells}
use Rattle.scmi_codec.specs.Header.{HeaderFields}
use Rattle.scmi_codec.specs.Payload.{begins_with_success}
use Rattle.scmi_codec.specs.declared.status.Status.{Status}
use Rattle.scmi_codec.specs.declared.message.Message.{Message}
use Rattle.scmi_codec.specs.declared.frame.Frame.{Frame}
use Rattle.scmi_codec.specs.declared.frame.Answer.TheVariants.{Reply, ChannelError}
use Rattle.scmi_codec.specs.declared.frame.Frame.TheVariants.{Good, Malformed}
use Rattle.scmi_plan.specs.Board.{Board}
use Rattle.scmi_plan.specs.Plan.{IsValid}
use Rattle.scmi_base.specs.Permission.{is_allowed}
use Rattle.scmi_power.specs.PowerTable.{state_at, is_subscribed}
use Rattle.scmi_clock.specs.ClockTable.{rate_at, enabled_at}
use Rattle.scmi_plan.specs.declared.resource.Resource.TheVariants as resource
use Rattle.scmi_core.specs.declared.pending_set.PendingSet.{PendingSet}
use Rattle.scmi_core.specs.declared.pending_set.Setting.{Setting}
use Rattle.scmi_core.specs.declared.pending_set.Setting.TheVariants as setting
use Rattle.scmi_core.specs.declared.event.Event.{Event}
use Rattle.scmi_codec.specs.declared.fault.Fault.{Fault}
use Rattle.scmi_core.specs.declared.event.Event.TheVariants.{Command, Advance, Sent, CommandFailed, AdvanceFailed, Restarted, Promoted, Settled}
use Rattle.scmi_core.specs.declared.tables.Tables.{Tables}
use Rattle.std.specs.Option.{option_to_list, option_and_then, option_map_or, option_or}
use Rattle.scmi_core.specs.Deed.{Deed, restarted_by, success_with, fold_with_prefix, success_of}
use Rattle.scmi_core.specs.Commands.{permission_in}
use Rattle.scmi_core.specs.Permissions.{has_permission}
use Rattle.scmi_core.specs.Subscriptions.{subscription, subscription_after_reset, is_subscriber}
use Rattle.scmi_core.specs.Value.{value, change_by, commanded_by, completed_set, failed_set, reported, Thing, State, Rate, Enabled, bit_value, set_to_change, value_in, value_at_start, change_of}
use Rattle.scmi_core.specs.Pending.{acceptance, has_set_of, pending_sets, promoted, setting_with, settled, unwanted}
use Rattle.scmi_core.specs.Outbox.{failed_response_for, failed_words, message_with, messages_made, made_by, made_in, outbox_after, sent_count, is_sent_by, situation_after}
use Rattle.scmi_core.specs.History.{CanSettle, HasPendingAt, IsIdle, answer_to, deeds, outbox}
use Rattle.scmi_core.specs.Legal.{CanFollow, IsLegal}
use Rattle.scmi_core.specs.Effect.{effect_after, effect_in, effect_of, effect_read}
use Rattle.scmi_core.specs.ReadCommand.{command_on}
use Rattle.scmi_core.specs.Reply.{answer_in, fits_channel, reply_in, reply_words, words_given}
use Rattle.scmi_core.specs.Outboxes.{outbox_in}
use Rattle.scmi_core.specs.Tables.{CanSettleIn, outbox_at, situation_in, value_at, IsThing, IsOfBoard}
use Rattle.scmi_core.specs.Step.{HasAnswered, HasFailed, HasPromoted, HasRestarted, HasSettled, rest_of, HasStepped}
use Rattle.scmi_core.specs.Agreement.{Agrees}
use Rattle.scmi_core.proofs.Deeds.{added_success, made_by-unfailed, has_permission-push, is_subscriber-push, value-push, pending_sets-push, pending_sets-advance, pending_sets-failed, outbox-push, IsLegal-push, sent_count-push}
use Rattle.scmi_core.proofs.Legal.{IsLegal-nil, deeds-push, advances_le-accepted, sent_le-made}
use Rattle.scmi_core.proofs.Situations.{SameSituation, answer-same, messages_made-same, messages_made-sent, nothing-made, outbox-promoted, outbox-restarted, outbox-settled, given-same, reply-same}
use Rattle.scmi_core.proofs.Promotions.{promoted-all, promoted-length}
use Rattle.scmi_core.proofs.Settlings.{settled-all}

-- the tables say of each agent what the history says
pub same-situation : (board : Board) (t : Tables) (h : List Event) (a : ℕ) → Agrees board t h
    → IsValid board → 1 ≤ a → a ≤ length board.agents
    → SameSituation board (situation_in a t) (situation_after board a (deeds board h))
unfolding outbox
same-situation board t h a agrees law lo hi =
    let few : a ≤ 8 = omega (arith, law.few_agents) in
    record {
      value = agrees.values;
      allowed = λ device scope within. agrees.permissions a device scope lo few
          (omega (arith, law.few_devices));
      subscribed = λ d within. agrees.subscriptions a d lo few (omega (arith, law.few_domains));
      pending = agrees.pending;
      outbox = agrees.outboxes a lo hi;
    }

-- ONE MORE EVENT

-- a deed, and the tables that it leaves
module _ (board : Board) (t new : Tables) (h : List Event) (deed : Deed) (agrees : Agrees board t h)
    (law : IsValid board)
    (stepped : HasStepped board t (added_success board deed)
    (completed_set board (deeds board h) deed.event) new)
    (pend : new.pending ≡ pending_sets board (deeds board h ++ deed ∷ []))
    (unfailed : failed_set board (deeds board h) deed.event ≡ None) (unrestarted : restarted_by
    deed.event ≡ None) (unreported : reported deed.event ≡ None) where
  messages_made-tied : (a : ℕ) → 1 ≤ a → a ≤ length board.agents
      → made_in a (situation_in a t) new.pending (completed_set board (deeds board h) deed.event)
      (change_of board (added_success board deed)
      (completed_set board (deeds board h) deed.event))
      ≡ made_by board a (deeds board h) (messages_made board a (deeds board h)) deed
  messages_made-tied a lo hi =
      let done = completed_set board (deeds board h) deed.event in
      let change = change_of board (added_success board deed) done in
      ap (λ left. made_in a (situation_in a t) left done change) pend
      ∙ messages_made-same board a (situation_in a t) (situation_after board a (deeds board h))
      (same-situation board t h a agrees law lo hi)
      (pending_sets board (deeds board h ++ deed ∷ [])) done change stepped.known
      ∙ ap (λ said. made_in a (situation_after board a (deeds board h)) (pending_sets board
      (deeds board h ++ deed ∷ [])) done (option_or said change)) (sym unreported)
      ∙ sym (made_by-unfailed board a (deeds board h)
      (messages_made board a (deeds board h)) deed unfailed)

  Agrees-deed : (e : Event) → deeds board (h ++ e ∷ []) ≡ deeds board h ++ deed ∷ [] → CanFollow
      board h e → ((a : ℕ) → is_sent_by a deed.event ≡ false) → Agrees board new (h ++ e ∷ [])
  unfolding outbox
  Agrees-deed e more follows unsent = record {
    legal = IsLegal-push board h e agrees.legal follows;
    permissions = λ a d scope lo hi small.
        stepped.permissions a d scope lo small
        ∙ ap (unwrap_or (option_and_then (λ s. permission_in board a d scope s.command)
        (added_success board deed))) (agrees.permissions a d scope lo hi small)
        ∙ sym (ap (has_permission board a d scope) more
        ∙ has_permission-push board a d scope (deeds board h) deed);
    subscriptions = λ a d lo hi small.
        stepped.subscriptions a d lo hi small
        ∙ ap (unwrap_or (option_and_then (subscription a d) (added_success board deed)))
        (agrees.subscriptions a d lo hi small)
        ∙ ap (λ restarted. unwrap_or (option_or (subscription_after_reset a restarted)
        (option_and_then (subscription a d) (added_success board deed)))
        (is_subscriber board a d (deeds board h))) (sym unrestarted)
        ∙ sym (ap (is_subscriber board a d) more
        ∙ is_subscriber-push board a d (deeds board h) deed);
    values = λ x within.
        stepped.values x within
        ∙ ap (λ said. unwrap_or (option_and_then (value_in x) (option_or said
        (commanded_by board (deeds board h) deed))) (value_at t x)) (sym unreported)
        ∙ ap (unwrap_or (option_and_then (value_in x) (change_by board (deeds board h) deed)))
        (agrees.values x within)
        ∙ sym (ap (value board x) more ∙ value-push board x (deeds board h) deed);
    pending = pend ∙ sym (ap (pending_sets board) more);
    known = stepped.known_sets agrees.known;
    outboxes = λ a lo hi.
        stepped.outboxes a lo hi
        ∙ ap (λ b. b ++ made_in a (situation_in a t) new.pending (completed_set board
        (deeds board h) deed.event) (change_of board (added_success board deed)
        (completed_set board (deeds board h) deed.event))) (agrees.outboxes a lo hi)
        ∙ ap (λ b. outbox board a h ++ b) (messages_made-tied a lo hi)
        ∙ ap (λ restarted. (if option_map_or (λ b. a == b) restarted false then [] else outbox board
        a h) ++ made_by board a (deeds board h) (messages_made board a (deeds board h)) deed)
        (sym unrestarted)
        ∙ sym (ap (outbox_after board a) more ∙ outbox-push board a (deeds board h) deed (unsent a)
        (sent_le-made board h agrees.legal a));
  }

-- a command
pub Agrees-command : (board : Board) (t new : Tables) (h : List Event) (a : ℕ) (m : Message)
    (reply : List ℕ) → Agrees board t h → IsValid board → 1 ≤ a → a ≤ length board.agents
    → reply ≡ words_given board a (situation_in a t) m
    → HasStepped board t (success_of a m.header (command_on board m) reply) None new
    → Agrees board new (h ++ Command a (Good m) ∷ [])
Agrees-command board t new h a m reply agrees law lo hi is stepped =
    let words : reply ≡ words_given board a (situation_after board a (deeds board h)) m =
    is ∙ given-same board a (situation_in a t) (situation_after board a (deeds board h))
    (same-situation board t h a agrees law lo hi) m in
    let deed : Deed = record {
      event = Command a (Good m);
      reply = words_given board a (situation_after board a (deeds board h)) m;
    } in
    let stepped' : HasStepped board t (success_of a m.header (command_on board m)
    (words_given board a (situation_after board a (deeds board h)) m)) None new = subst (λ r.
    HasStepped board t (success_of a m.header (command_on board m) r) None new) words stepped in
    Agrees-deed board t new h deed agrees law stepped'
    (stepped'.pending ∙ ap (λ p. p ++ option_to_list (option_and_then (acceptance board)
    (added_success board deed))) agrees.pending ∙ sym (pending_sets-push board
    (deeds board h) deed refl (advances_le-accepted board h agrees.legal)))
    refl refl refl (Command a (Good m)) (deeds-push board h (Command a (Good m)))
    (lo, hi) (λ x. refl)

-- an event that is neither a success nor a completion
pub nothing-stepped : (board : Board) (t : Tables) → HasStepped board t None None t
nothing-stepped board t = record {
  permissions = λ a d scope lo small. refl;
  subscriptions = λ a d lo hi small. refl;
  values = λ x within. refl;
  known = tt;
  pending = sym (append-nil t.pending);
  known_sets = λ all. all;
  outboxes = λ a lo hi. sym (append-nil (outbox_at t a))
      ∙ ap (λ ys. outbox_at t a ++ ys) (sym (nothing-made a (situation_in a t) t.pending));
}

-- a message that is no command
pub unread-stepped : (board : Board) (t : Tables) (a : ℕ) (header : HeaderFields) (s : Status)
    (reply : List ℕ) → HasStepped board t (success_of a header (Err s) reply) None t
unread-stepped board t a header s reply = by (begins_with_success reply) where
  by : (b : Bool) → HasStepped board t (if b then success_with a header (Err s) else None) None t
  by true = nothing-stepped board t
  by false = nothing-stepped board t

-- a message that is longer than its channel leaves everything as it was
pub long-stepped : (board : Board) (t : Tables) (a : ℕ) (m : Message)
    → fits_channel board a m ≡ false → HasAnswered board a (Good m) t t
long-stepped board t a m long =
    subst (λ b. HasStepped board t (success_of a m.header (command_on board m)
    (if b then reply_words board a (situation_in a t) (command_on board m) else [])) None t)
    (sym long) (nothing-stepped board t)

pub long-answer : (board : Board) (t : Tables) (a : ℕ) (m : Message)
    → fits_channel board a m ≡ false → ChannelError ≡ answer_in board a (Good m) (situation_in a t)
long-answer board t a m long =
    sym (ap (λ b. if b then Reply (reply_in board a m (situation_in a t)) else ChannelError) long)

-- another one leaves what its reply says
pub short-stepped : (board : Board) (t new : Tables) (a : ℕ) (m : Message) (reply : List ℕ)
    → fits_channel board a m ≡ true
    → reply ≡ reply_words board a (situation_in a t) (command_on board m)
    → HasStepped board t (success_of a m.header (command_on board m) reply) None new
    → HasAnswered board a (Good m) t new
short-stepped board t new a m reply short is stepped =
    subst (λ words. HasStepped board t (success_of a m.header (command_on board m) words) None new)
    (is ∙ sym (ap (λ b. if b then reply_words board a (situation_in a t) (command_on board m)
    else []) short)) stepped

pub short-answer : (board : Board) (t : Tables) (a : ℕ) (m : Message) (reply : List ℕ)
    → fits_channel board a m ≡ true
    → reply ≡ reply_words board a (situation_in a t) (command_on board m)
    → Reply (message_with m.header reply) ≡ answer_in board a (Good m) (situation_in a t)
short-answer board t a m reply short is =
    ap (λ words. Reply (message_with m.header words)) is
    ∙ sym
    (ap (λ b. if b then Reply (reply_in board a m (situation_in a t)) else ChannelError) short)

-- a malformed frame
pub Agrees-malformed : (board : Board) (t : Tables) (h : List Event) (a len header : ℕ)
    → Agrees board t h → IsValid board → 1 ≤ a → a ≤ length board.agents
    → Agrees board t (h ++ Command a (Malformed len header) ∷ [])
Agrees-malformed board t h a len header agrees law lo hi =
    let deed : Deed = record { event = Command a (Malformed len header); reply = [] } in
    Agrees-deed board t t h deed agrees law (nothing-stepped board t)
    (sym (append-nil t.pending) ∙ ap (λ p. p ++ []) agrees.pending ∙ sym (pending_sets-push board
    (deeds board h) deed refl (advances_le-accepted board h agrees.legal)))
    refl refl refl (Command a (Malformed len header))
    (deeds-push board h (Command a (Malformed len header))) (lo, hi) (λ x. refl)

-- a frame that was answered
pub Agrees-answered : (board : Board) (t new : Tables) (h : List Event) (a : ℕ) (frame : Frame)
    → Agrees board t h → IsValid board → 1 ≤ a → a ≤ length board.agents
    → HasAnswered board a frame t new → Agrees board new (h ++ Command a frame ∷ [])
Agrees-answered board t new h a (Good m) agrees law lo hi answered =
    Agrees-command board t new h a m
    (words_given board a (situation_in a t) m) agrees law lo hi refl answered
Agrees-answered board t new h a (Malformed len header) agrees law lo hi answered =
    subst (λ s. Agrees board s (h ++ Command a (Malformed len header) ∷ [])) (sym answered)
    (Agrees-malformed board t h a len header agrees law lo hi)

-- the answer of the tables is that of the history
pub answer-table : (board : Board) (t : Tables) (h : List Event) (a : ℕ) (frame : Frame)
    → Agrees board t h → IsValid board → 1 ≤ a → a ≤ length board.agents
    → answer_in board a frame (situation_in a t) ≡ answer_to board a frame h
answer-table board t h a frame agrees law lo hi =
    answer-same board a (situation_in a t) (situation_after board a (deeds board h))
    (same-situation board t h a agrees law lo hi) frame

rest-drop : (t : Tables) (p : List PendingSet) → 0 < length p
    → rest_of t (slice_get p 0) ++ [] ≡ drop 1 t.pending
rest-drop t [] waiting = elim waiting [ ]
rest-drop t (x ∷ xs) waiting = append-nil (drop 1 t.pending)

-- a completion
pub Agrees-advance : (board : Board) (t new : Tables) (h : List Event) → Agrees board t h
    → IsValid board → 0 < length t.pending
    → HasStepped board t None (slice_get t.pending 0) new → Agrees board new (h ++ Advance ∷ [])
Agrees-advance board t new h agrees law waiting stepped =
    let deed : Deed = record { event = Advance; reply = [] } in
    let follows : 0 < length (pending_sets board (deeds board h)) =
    subst (λ p. 0 < length p) agrees.pending waiting in
    let stepped' : HasStepped board t None (completed_set board (deeds board h) Advance) new =
    subst (λ p. HasStepped board t None (slice_get p 0) new) agrees.pending stepped in
    Agrees-deed board t new h deed agrees law stepped'
    (stepped.pending ∙ rest-drop t t.pending waiting ∙ ap (drop 1) agrees.pending
    ∙ sym (pending_sets-advance board (deeds board h)))
    refl refl refl Advance (deeds-push board h Advance) follows (λ x. refl)

-- the effect of a frame by the tables is that by the history
pub effect-table : (board : Board) (t : Tables) (h : List Event) (a : ℕ) (frame : Frame)
    → Agrees board t h → IsValid board → 1 ≤ a → a ≤ length board.agents
    → effect_in board a frame (situation_in a t) ≡ effect_after board h (Command a frame)
effect-table board t h a (Good m) agrees law lo hi = by (fits_channel board a m) where
  by : (short : Bool)
      → (if short then effect_read board a m (situation_in a t) else None)
      ≡ option_map effect_of
      (change_of board (success_of a m.header (command_on board m) (if short then reply_words
      board a (situation_after board a (deeds board h)) (command_on board m) else [])) None)
  by true =
      ap (λ words. option_map effect_of
      (change_of board (success_of a m.header (command_on board m) words) None))
      (reply-same board a (situation_in a t) (situation_after board a (deeds board h))
      (same-situation board t h a agrees law lo hi) (command_on board m))
  by false = refl
effect-table board t h a (Malformed len header) agrees law lo hi = refl

-- a command that failed
pub Agrees-command_failed : (board : Board) (t : Tables) (h : List Event) (a : ℕ) (m : Message)
    (fault : Fault) → Agrees board t h → IsValid board → 1 ≤ a → a ≤ length board.agents
    → effect_after board h (Command a (Good m)) ≢ None
    → Agrees board t (h ++ CommandFailed a (Good m) fault ∷ [])
Agrees-command_failed board t h a m fault agrees law lo hi some =
    let deed : Deed =
    record { event = CommandFailed a (Good m) fault; reply = failed_words fault } in
    Agrees-deed board t t h deed agrees law (nothing-stepped board t)
    (sym (append-nil t.pending) ∙ ap (λ p. p ++ []) agrees.pending ∙ sym (pending_sets-push board
    (deeds board h) deed refl (advances_le-accepted board h agrees.legal)))
    refl refl refl (CommandFailed a (Good m) fault)
    (deeds-push board h (CommandFailed a (Good m) fault)) ((lo, hi), some) (λ x. refl)

-- a completion that failed
pub Agrees-advance_failed : (board : Board) (t new : Tables) (h : List Event) (fault : Fault)
    → Agrees board t h → IsValid board → 0 < length t.pending → HasFailed fault t new
    → Agrees board new (h ++ AdvanceFailed fault ∷ [])
unfolding outbox
Agrees-advance_failed board t new h fault agrees law waiting failed =
    let deed : Deed = record { event = AdvanceFailed fault; reply = [] } in
    let more = deeds-push board h (AdvanceFailed fault) in
    let follows : 0 < length (pending_sets board (deeds board h)) =
    subst (λ p. 0 < length p) agrees.pending waiting in
    record {
      legal = IsLegal-push board h (AdvanceFailed fault) agrees.legal follows;
      permissions = λ x d scope lo hi small. ap (λ b. is_allowed b x d scope) failed.base
          ∙ agrees.permissions x d scope lo hi small ∙ sym (ap (has_permission board x d scope) more
          ∙ has_permission-push board x d scope (deeds board h) deed);
      subscriptions = λ x d lo hi small. ap (λ p. is_subscribed p x d) failed.power
          ∙ agrees.subscriptions x d lo hi small ∙ sym
          (ap (is_subscriber board x d) more ∙ is_subscriber-push board x d (deeds board h) deed);
      values = λ x within. same_value x ∙ agrees.values x within
          ∙ sym (ap (value board x) more ∙ value-push board x (deeds board h) deed);
      pending = failed.pending ∙ ap (drop 1) agrees.pending
          ∙ sym (ap (pending_sets board) more ∙ pending_sets-failed board (deeds board h) fault);
      known = subst (All (IsOfBoard board)) (sym failed.pending)
          (All-drop (IsOfBoard board) 1 t.pending agrees.known);
      outboxes = λ x lo hi.
          failed.outboxes x lo
          ∙ ap (λ b. b ++ option_map_or (failed_response_for x fault) (slice_get t.pending 0) [])
          (agrees.outboxes x lo hi)
          ∙ ap (λ p. outbox board x h ++ option_map_or (failed_response_for x fault) (slice_get p 0)
          []) agrees.pending
          ∙ ap (λ ys. outbox board x h ++ ys) (sym (append-nil (option_map_or
          (failed_response_for x fault) (slice_get (pending_sets board (deeds board h)) 0) []))
          ∙ ap (λ ys. option_map_or (failed_response_for x fault)
          (slice_get (pending_sets board (deeds board h)) 0) [] ++ ys)
          (sym (nothing-made x (situation_after board x (deeds board h))
          (pending_sets board (deeds board h ++ deed ∷ [])))))
          ∙ sym (ap (outbox_after board x) more ∙ outbox-push board x (deeds board h) deed refl
          (sent_le-made board h agrees.legal x));
    } where
      same_value : (x : Thing) → value_at new x ≡ value_at t x
      same_value (State d) = ap (λ p. state_at p d) failed.power
      same_value (Rate k) = ap (λ p. rate_at p k) failed.clocks
      same_value (Enabled k) = ap (λ p. bit_value (enabled_at p k)) failed.clocks

-- a message that was posted
pub Agrees-sent : (board : Board) (t new : Tables) (h : List Event) (a : ℕ) → Agrees board t h
    → IsValid board → 1 ≤ a → a ≤ length board.agents → 0 < length (outbox_at t a)
    → new.base ≡ t.base → new.power ≡ t.power → new.clocks ≡ t.clocks → new.pending ≡ t.pending
    → outbox_at new a ≡ drop 1 (outbox_at t a)
    → ((x : ℕ) → 1 ≤ x → x ≢ a → outbox_at new x ≡ outbox_at t x)
    → Agrees board new (h ++ Sent a ∷ [])
unfolding outbox
Agrees-sent board t new h a agrees law lo hi waiting bases powers clocks pends front others =
    let deed : Deed = record { event = Sent a; reply = [] } in
    let more = deeds-push board h (Sent a) in
    let follows : 0 < length (outbox board a h) =
    subst (λ b. 0 < length b) (agrees.outboxes a lo hi) waiting in
    record {
      legal = IsLegal-push board h (Sent a) agrees.legal (lo, hi, follows);
      permissions = λ x d scope lo' hi' small. ap (λ b. is_allowed b x d scope) bases
          ∙ agrees.permissions x d scope lo' hi' small ∙ sym (ap (has_permission board x d scope)
          more ∙ has_permission-push board x d scope (deeds board h) deed);
      subscriptions = λ x d lo' hi' small. ap (λ p. is_subscribed p x d) powers
          ∙ agrees.subscriptions x d lo' hi' small ∙ sym
          (ap (is_subscriber board x d) more ∙ is_subscriber-push board x d (deeds board h) deed);
      values = λ x within. same_value x ∙ agrees.values x within
          ∙ sym (ap (value board x) more ∙ value-push board x (deeds board h) deed);
      pending = pends ∙ agrees.pending ∙ sym (append-nil (pending_sets board (deeds board h)))
          ∙ sym (ap (pending_sets board) more ∙ pending_sets-push board (deeds board h) deed refl
          (advances_le-accepted board h agrees.legal));
      known = subst (All (IsOfBoard board)) (sym pends) agrees.known;
      outboxes = λ x lo' hi'. by_agent x lo' hi' (eqb_tells x a);
    } where
      same_value : (x : Thing) → value_at new x ≡ value_at t x
      same_value (State d) = ap (λ p. state_at p d) powers
      same_value (Rate k) = ap (λ p. rate_at p k) clocks
      same_value (Enabled k) = ap (λ p. bit_value (enabled_at p k)) clocks

      by_agent : (x : ℕ) → 1 ≤ x → x ≤ length board.agents → (((x == a) ≡ true) × (x ≡ a))
          ⊎ (((x == a) ≡ false) × (x ≢ a)) → outbox_at new x ≡ outbox board x (h ++ Sent a ∷ [])
      by_agent x lo' hi' (inl same) =
          let deed : Deed = record { event = Sent a; reply = [] } in
          rw same.1 (front ∙ ap (drop 1) (agrees.outboxes a lo hi)
          ∙ drop-drop 1 (sent_count a (deeds board h)) (messages_made board a (deeds board h))
          ∙ sym (ap (outbox_after board a) (deeds-push board h (Sent a)) ∙ ap (drop (sent_count a
          (deeds board h ++ deed ∷ []))) (messages_made-sent board a (deeds board h) a)
          ∙ ap (λ n. drop n (messages_made board a (deeds board h)))
          (sent_count-push a (deeds board h) deed
          ∙ ap (λ b. sent_count a (deeds board h) + (if b then 1 else 0)) (eq-eqb a a refl))))
      by_agent x lo' hi' (inr other) =
          let deed : Deed = record { event = Sent a; reply = [] } in
          let zero_more : sent_count x (deeds board h) + 0 ≡ sent_count x (deeds board h) =
          omega arith in
          others x lo' other.1 ∙ agrees.outboxes x lo' hi'
          ∙ sym (ap (outbox_after board x) (deeds-push board h (Sent a)) ∙ ap (drop (sent_count x
          (deeds board h ++ deed ∷ []))) (messages_made-sent board x (deeds board h) a)
          ∙ ap (λ n. drop n (messages_made board x (deeds board h)))
          (sent_count-push x (deeds board h) deed
          ∙ ap (λ b. sent_count x (deeds board h) + (if b then 1 else 0)) other.0 ∙ zero_more))

or_none : {X : Type 0} (o : Option X) → option_or o None ≡ o
or_none None = refl
or_none (Some x) = refl

known_unwanted : (board : Board) (a : ℕ) (sets : List PendingSet) → All (IsOfBoard board) sets
    → All (IsOfBoard board) (map (unwanted a) sets)
known_unwanted board a sets known =
    All-map (IsOfBoard board) (unwanted a) sets
    (All-weaker (IsOfBoard board) (λ p. IsOfBoard board (unwanted a p))
    (λ p one. record { first = one.first; last = one.last; thing = one.thing }) sets known)

-- an agent that restarted
pub Agrees-restarted : (board : Board) (t new : Tables) (h : List Event) (a : ℕ) → Agrees board t h
    → 1 ≤ a → a ≤ length board.agents → HasRestarted a t new
    → Agrees board new (h ++ Restarted a ∷ [])
unfolding outbox
Agrees-restarted board t new h a agrees lo hi it =
    let deed : Deed = record { event = Restarted a; reply = [] } in
    let more = deeds-push board h (Restarted a) in
    record {
      legal = IsLegal-push board h (Restarted a) agrees.legal (lo, hi);
      permissions = λ x d scope lo' hi' small. ap (λ b. is_allowed b x d scope) it.base
          ∙ agrees.permissions x d scope lo' hi' small ∙ sym (ap (has_permission board x d scope)
          more ∙ has_permission-push board x d scope (deeds board h) deed);
      subscriptions = λ x d lo' hi' small.
          it.subscriptions x d lo' hi' small
          ∙ ap (unwrap_or (subscription_after_reset x (Some a)))
          (agrees.subscriptions x d lo' hi' small)
          ∙ ap (λ said. unwrap_or said (is_subscriber board x d (deeds board h)))
          (sym (or_none (subscription_after_reset x (Some a))))
          ∙ sym (ap (is_subscriber board x d) more
          ∙ is_subscriber-push board x d (deeds board h) deed);
      values = λ x within. same_value x ∙ agrees.values x within
          ∙ sym (ap (value board x) more ∙ value-push board x (deeds board h) deed);
      pending = it.pending ∙ ap (map (unwanted a)) agrees.pending
          ∙ sym (append-nil (map (unwanted a) (pending_sets board (deeds board h))))
          ∙ sym (ap (pending_sets board) more ∙ pending_sets-push board (deeds board h) deed refl
          (advances_le-accepted board h agrees.legal));
      known = subst (All (IsOfBoard board)) (sym it.pending)
          (known_unwanted board a t.pending agrees.known);
      outboxes = λ x lo' hi'. by_agent x lo' hi' (eqb_tells x a);
    } where
      same_value : (x : Thing) → value_at new x ≡ value_at t x
      same_value (State d) = ap (λ states. get_or states d 0) it.states
      same_value (Rate k) = ap (λ p. rate_at p k) it.clocks
      same_value (Enabled k) = ap (λ p. bit_value (enabled_at p k)) it.clocks

      by_agent : (x : ℕ) → 1 ≤ x
          → x ≤ length board.agents → (((x == a) ≡ true) × (x ≡ a)) ⊎ (((x == a) ≡ false) × (x ≢ a))
          → outbox_at new x ≡ outbox board x (h ++ Restarted a ∷ [])
      by_agent x lo' hi' (inl same) =
          ap (outbox_at new) same.1 ∙ it.emptied
          ∙ sym (ap (outbox_after board x) (deeds-push board h (Restarted a))
          ∙ outbox-restarted board x (deeds board h) a (sent_le-made board h agrees.legal x)
          ∙ ap (λ own. if own then [] else outbox board x h) same.0)
      by_agent x lo' hi' (inr other) =
          it.others x lo' other.1 ∙ agrees.outboxes x lo' hi'
          ∙ sym (ap (outbox_after board x) (deeds-push board h (Restarted a))
          ∙ outbox-restarted board x (deeds board h) a (sent_le-made board h agrees.legal x)
          ∙ ap (λ own. if own then [] else outbox board x h) other.0)

-- a pending set that went before the others
pub Agrees-promoted : (board : Board) (t new : Tables) (h : List Event) (place : ℕ)
    → Agrees board t h → place < length t.pending → HasPromoted place t new
    → Agrees board new (h ++ Promoted place ∷ [])
unfolding outbox
Agrees-promoted board t new h place agrees within it =
    let deed : Deed = record { event = Promoted place; reply = [] } in
    let more = deeds-push board h (Promoted place) in
    let follows : place < length (pending_sets board (deeds board h)) =
    subst (λ p. place < length p) agrees.pending within in
    record {
      legal = IsLegal-push board h (Promoted place) agrees.legal follows;
      permissions = λ x d scope lo hi small. ap (λ b. is_allowed b x d scope) it.rest.base
          ∙ agrees.permissions x d scope lo hi small ∙ sym (ap (has_permission board x d scope) more
          ∙ has_permission-push board x d scope (deeds board h) deed);
      subscriptions = λ x d lo hi small. ap (λ p. is_subscribed p x d) it.rest.power
          ∙ agrees.subscriptions x d lo hi small ∙ sym
          (ap (is_subscriber board x d) more ∙ is_subscriber-push board x d (deeds board h) deed);
      values = λ x within. same_value x ∙ agrees.values x within
          ∙ sym (ap (value board x) more ∙ value-push board x (deeds board h) deed);
      pending = it.pending ∙ ap (promoted place) agrees.pending
          ∙ sym (append-nil (promoted place (pending_sets board (deeds board h))))
          ∙ sym (ap (pending_sets board) more ∙ pending_sets-push board (deeds board h) deed refl
          (advances_le-accepted board h agrees.legal));
      known = subst (All (IsOfBoard board)) (sym it.pending)
          (promoted-all (IsOfBoard board) place t.pending agrees.known);
      outboxes = λ x lo hi.
          ap (λ boxes. outbox_in boxes x) it.rest.outboxes
          ∙ agrees.outboxes x lo hi
          ∙ sym (ap (outbox_after board x) more ∙ outbox-promoted board x (deeds board h) place
          (sent_le-made board h agrees.legal x));
    } where
      same_value : (x : Thing) → value_at new x ≡ value_at t x
      same_value (State d) = ap (λ p. state_at p d) it.rest.power
      same_value (Rate k) = ap (λ p. rate_at p k) it.rest.clocks
      same_value (Enabled k) = ap (λ p. bit_value (enabled_at p k)) it.rest.clocks

-- after which a set is pending
pub promoted-waits : (board : Board) (h : List Event) (place : ℕ) → IsLegal board h
    → HasPendingAt board h place → ¬ (IsIdle board (h ++ Promoted place ∷ []))
promoted-waits board h place legal within = λ idle.
    let deed : Deed = record { event = Promoted place; reply = [] } in
    let pending = pending_sets board (deeds board h) in
    let same =
    ap (pending_sets board) (deeds-push board h (Promoted place))
    ∙ pending_sets-push board (deeds board h) deed refl (advances_le-accepted board h legal)
    ∙ append-nil (promoted place pending) in
    let none : length pending ≡ 0 = sym (promoted-length place pending)
    ∙ ap length (sym same ∙ idle) in
    absurd (omega (arith, none, within))

-- a pending set that got another rate
settled_known : (board : Board) (clock rate : ℕ) (p : PendingSet) → IsOfBoard board p
    → IsOfBoard board (settled clock rate p)
settled_known board clock rate p had =
    record { first = had.first; last = had.last; thing = by p.setting had.thing } where
      by : (s : Setting) → IsThing board (set_to_change p.agent s).thing
          → IsThing board (set_to_change p.agent (setting_with clock rate s)).thing
      by (setting.State d state) known = known
      by (setting.Rate c asked) known = known

pub Agrees-settled : (board : Board) (t new : Tables) (h : List Event) (clock rate : ℕ)
    → Agrees board t h → CanSettleIn board t clock → HasSettled clock rate t new
    → Agrees board new (h ++ Settled clock rate ∷ [])
unfolding outbox
Agrees-settled board t new h clock rate agrees may it =
    let deed : Deed = record { event = Settled clock rate; reply = [] } in
    let more = deeds-push board h (Settled clock rate) in
    let follows : CanSettle board h clock = (
      may.0,
      may.1,
      subst (λ p. has_set_of (resource.Clock clock) p ≡ true) agrees.pending may.2,
    ) in
    record {
      legal = IsLegal-push board h (Settled clock rate) agrees.legal follows;
      permissions = λ x d scope lo hi small. ap (λ b. is_allowed b x d scope) it.rest.base
          ∙ agrees.permissions x d scope lo hi small ∙ sym (ap (has_permission board x d scope) more
          ∙ has_permission-push board x d scope (deeds board h) deed);
      subscriptions = λ x d lo hi small. ap (λ p. is_subscribed p x d) it.rest.power
          ∙ agrees.subscriptions x d lo hi small ∙ sym
          (ap (is_subscriber board x d) more ∙ is_subscriber-push board x d (deeds board h) deed);
      values = λ x within. same_value x ∙ agrees.values x within
          ∙ sym (ap (value board x) more ∙ value-push board x (deeds board h) deed);
      pending = it.pending ∙ ap (map (settled clock rate)) agrees.pending
          ∙ sym (append-nil (map (settled clock rate) (pending_sets board (deeds board h))))
          ∙ sym (ap (pending_sets board) more ∙ pending_sets-push board (deeds board h) deed refl
          (advances_le-accepted board h agrees.legal));
      known = subst (All (IsOfBoard board)) (sym it.pending) (settled-all
          (IsOfBoard board) clock rate (settled_known board clock rate) t.pending agrees.known);
      outboxes = λ x lo hi.
          ap (λ boxes. outbox_in boxes x) it.rest.outboxes
          ∙ agrees.outboxes x lo hi
          ∙ sym (ap (outbox_after board x) more ∙ outbox-settled board x (deeds board h) clock rate
          (sent_le-made board h agrees.legal x));
    } where
      same_value : (x : Thing) → value_at new x ≡ value_at t x
      same_value (State d) = ap (λ p. state_at p d) it.rest.power
      same_value (Rate k) = ap (λ p. rate_at p k) it.rest.clocks
      same_value (Enabled k) = ap (λ p. bit_value (enabled_at p k)) it.rest.clocks

-- the tables of a new controller
pub Agrees-new : (board : Board) (t : Tables) → t.base ≡ board.denied
    → ((a d : ℕ) → is_subscribed t.power a d ≡ false)
    → ((x : Thing) → IsThing board x → value_at t x ≡ value_at_start board x) → t.pending ≡ []
    → ((a : ℕ) → outbox_at t a ≡ []) → Agrees board t []
unfolding deeds fold_with_prefix outbox
Agrees-new board t all none values pends boxes = record {
  legal = IsLegal-nil board;
  permissions = λ a d scope lo hi small. ap (λ b. is_allowed b a d scope) all;
  subscriptions = λ a d lo hi small. none a d;
  values = values;
  pending = pends;
  known = subst (All (IsOfBoard board)) (sym pends) (All-nil (IsOfBoard board));
  outboxes = λ a lo hi. boxes a;
}
