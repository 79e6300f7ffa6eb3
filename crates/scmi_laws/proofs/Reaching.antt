-- What a command of one agent changes of another agent's situation.
use Rattle.std.proofs.Common.{◌≡◌, ◌≢◌, ◌⊎◌, inl, inr, ℕ, ◌+◌, ◌==◌, ◌&&◌, nat_lt, Bool, true, false, not, List, [], ◌∷◌, ◌++◌, length, Option, Some, None, option_map, unwrap_or, refl, sym, ap, ◌∙◌, subst, if◌then◌else◌}
use Rattle.std.specs.Prelude.{IfSome, Result, Ok, Err}
use Rattle.std.specs.Option.{option_and_then, option_map_or, option_or, option_to_list}
use Rattle.std.proofs.lemmas.List.{append-nil}
use Rattle.std.proofs.lemmas.List.Elements.{All-pop}
use Rattle.std.proofs.lemmas.Bool.{eq-eqb, eqb-true}
use Rattle.scmi_codec.specs.Header.{HeaderFields}
use Rattle.scmi_codec.specs.Payload.{begins_with_success}
use Rattle.scmi_codec.specs.declared.status.Status.{Status}
use Rattle.scmi_codec.specs.declared.command.Command as codec
use Rattle.scmi_codec.specs.declared.frame.Frame.{Frame}
use Rattle.scmi_codec.specs.declared.frame.Frame.TheVariants.{Good, Malformed}
use Rattle.scmi_plan.specs.Board.{Board}
use Rattle.scmi_plan.specs.declared.scope.Scope.{Scope}
use Rattle.scmi_core.specs.declared.event.Event.{Event}
use Rattle.scmi_core.specs.declared.event.Event.TheVariants.{Command}
use Rattle.scmi_core.specs.declared.pending_set.PendingSet.{PendingSet}
use Rattle.scmi_core.specs.Deed.{Deed, Success, success_of, success_with, successes}
use Rattle.scmi_core.specs.History.{deed_after, deeds}
use Rattle.scmi_core.specs.Laws.{IsTrusted, change_asked, may_after}
use Rattle.scmi_core.specs.Legal.{IsLegal}
use Rattle.scmi_core.specs.Outbox.{made_in, notice_in, state_changed}
use Rattle.scmi_core.specs.Pending.{acceptance, made_pending, sets_by}
use Rattle.scmi_core.specs.Commands.{later_of, permission_in, request_of, reset_of}
use Rattle.scmi_core.specs.declared.outboxes.TheConstants.{OUTBOX_ROOM}
use Rattle.scmi_codec.specs.declared.message.Message.{Message}
use Rattle.scmi_core.specs.ReadCommand.{command_on}
use Rattle.scmi_core.specs.Reply.{fits_channel, reply_words}
use Rattle.scmi_core.specs.Situation.{Situation}
use Rattle.scmi_core.specs.Subscriptions.{subscription, subscription_after_reset}
use Rattle.scmi_core.specs.Value.{Change, Enabled, Rate, State, Thing, change_now, completion, value_in}
use Rattle.scmi_core.proofs.Causes.{asked-own}
use Rattle.scmi_core.proofs.CommandLaws.{command_laws, unreset-by}
use Rattle.scmi_core.proofs.Deeds.{added_success, successes-push}
use Rattle.scmi_core.proofs.Following.{next}
use Rattle.scmi_core.proofs.Legal.{deeds-push}
use Rattle.scmi_core.proofs.Trusted.{permissions}
use Rattle.scmi_laws.specs.Others.{IsNotified, Reaches, ReachesOnly, situation_of, value_with}
use Rattle.scmi_laws.proofs.Added.{situation-more}

-- WHAT A SUCCESS OF AN AGENT SAYS

-- agent a may make the change that its success makes, the set that it leaves pending is its own,
-- and unless the agent is trusted it says nothing of others
record IsOwnSuccess (board : Board) (h : List Event) (a : ℕ)
    (success : Option Success) : Type 0 where
  pub change : (change : Change) → option_and_then (change_now board) success ≡ Some change
      → (change.causer ≡ a) × (may_after board h a change.thing ≡ true)
  pub set : (p : PendingSet) → option_and_then (acceptance board) success ≡ Some p → p.agent ≡ a
  pub permission : a ≢ board.trusted → (b d : ℕ) (scope : Scope)
      → option_and_then (λ it. permission_in board b d scope it.command) success ≡ None
  pub subscription : a ≢ board.trusted → (b d : ℕ) → a ≢ b
      → option_and_then (subscription b d) success ≡ None

none-own : (board : Board) (h : List Event) (a : ℕ) → IsOwnSuccess board h a None
none-own board h a = record {
  change = λ change is. absurd (cc);
  set = λ p is. absurd (cc);
  permission = λ other b d scope. refl;
  subscription = λ other b d differ. refl;
}

is_none : {T : Type 0} (o : Option T) → (o ≢ None → ⊥) → o ≡ None
is_none None some = refl
is_none (Some x) some = absurd (some (λ none. absurd (cc)))

set-agent : {X : Type 0} (a : ℕ) (set_by : X → PendingSet) → ((x : X) → (set_by x).agent ≡ a)
    → (o : Option X) (p : PendingSet) → option_map set_by o ≡ Some p → p.agent ≡ a
set-agent a set_by own None p is = absurd (cc)
set-agent a set_by own (Some x) p is = sym (ap (λ o. (unwrap_or o p).agent) is) ∙ own x

module _ (board : Board) (h : List Event) (a : ℕ) (header : HeaderFields) where
  abbrev success : codec.Command → Success
  success c = record { caller = a; header = header; command = c }

  -- whether a message of the agent succeeds
  abbrev succeeds : Result codec.Command Status → Bool
  succeeds r = begins_with_success (reply_words board a (situation_of board a h) r)

  accepted-own : (c : codec.Command) (p : PendingSet) → acceptance board (success c) ≡ Some p
      → p.agent ≡ a
  accepted-own c p is = set-agent a (made_pending a header) (λ later. refl) (later_of board c) p is

  -- a request for notifications is the caller's own
  request-silent : (b d : ℕ) → a ≢ b → (c : codec.Command) → succeeds (Ok c) ≡ true
      → request_of b d a c ≡ None
  unfolding reply_words
  request-silent b d differ c ok = by (request_of b d a c) refl where
    by : (o : Option Bool) → request_of b d a c ≡ o → o ≡ None
    by None is = refl
    by (Some on) is =
        let told = (command_laws board a).told board (situation_of board a h) c b d a on ok is in
        absurd (differ (eqb-true a b told.0))

  subscription-silent : (b d : ℕ) → a ≢ board.trusted → a ≢ b → (c : codec.Command)
      → succeeds (Ok c) ≡ true → subscription b d (success c) ≡ None
  unfolding reply_words
  subscription-silent b d other differ c ok =
      ap (λ r. option_or (subscription_after_reset b r) (request_of b d a c))
      (unreset-by board a (situation_of board a h) c ok other)
      ∙ request-silent b d differ c ok

  change-own : (c : codec.Command) (change : Change) → succeeds (Ok c) ≡ true
      → change_now board (success c) ≡ Some change
      → (change.causer ≡ a) × (may_after board h a change.thing ≡ true)
  change-own c change ok is =
      let later = option_map completion (acceptance board (success c)) in
      let asked =
      ap (λ it. option_and_then (change_asked board) (if it then Some (success c) else None)) ok
      ∙ ap (λ now. option_or now later) is in
      let own = asked-own board a header (situation_of board a h) change (Ok c) asked in
      (own.causer, own.allowed)

  command-own : (c : codec.Command) → succeeds (Ok c) ≡ true → IsTrusted board (success c)
      → IsOwnSuccess board h a (Some (success c))
  command-own c ok trusted = record {
    change = λ change is. change-own c change ok is;
    set = λ p is. accepted-own c p is;
    permission = λ other b d scope.
        is_none (permission_in board b d scope c) (λ some. other (trusted b d scope some));
    subscription = λ other b d differ. subscription-silent b d other differ c ok;
  }

  reply-own : (r : Result codec.Command Status) (is : Bool) → succeeds r ≡ is
      → IfSome (if is then success_with a header r else None) (IsTrusted board)
      → IsOwnSuccess board h a (if is then success_with a header r else None)
  reply-own (Err e) true ok trusted = none-own board h a
  reply-own (Ok c) true ok trusted = command-own c ok trusted
  reply-own r false ok trusted = none-own board h a

-- a frame of an agent is such a success, if it is one
module _ (board : Board) (h : List Event) (a : ℕ) (m : Message) where
  abbrev deed : Deed
  deed = deed_after board (deeds board h) (Command a (Good m))

  abbrev reply : List ℕ
  reply = reply_words board a (situation_of board a h) (command_on board m)

  abbrev answered : Bool → Option Success
  answered fits = success_of a m.header (command_on board m) (if fits then reply else [])

  trusted : IfSome (added_success board deed) (IsTrusted board)
  trusted =
      let h' = h ++ Command a (Good m) ∷ [] in
      let pushed = deeds-push board h (Command a (Good m)) in
      let more = ap (successes board) pushed ∙ successes-push board (deeds board h) deed in
      (All-pop (IsTrusted board) (successes board (deeds board h'))
      (successes board (deeds board h))
      (added_success board deed) more (permissions board h')).1

  answered-own : (fits : Bool) → IfSome (answered fits) (IsTrusted board)
      → IsOwnSuccess board h a (answered fits)
  answered-own true all =
      reply-own board h a m.header (command_on board m) (begins_with_success reply) refl all
  answered-own false all = none-own board h a

  message-own : IsOwnSuccess board h a (added_success board deed)
  message-own = answered-own (fits_channel board a m) trusted

-- WHAT IT CHANGES OF ANOTHER AGENT'S SITUATION

-- the notices of a change are one, of a new state that an agent gave
pub record IsNotice (a d : ℕ) (s : Situation) (change : Option Change)
    (notices : List Message) : Type 0 where
  pub state : ℕ
  pub given : change ≡ Some (record { thing = State d; value = state; causer = a })
  pub subscribed : s.subscribed d ≡ true
  pub new : state ≢ s.value (State d)
  pub message : notices ≡ state_changed a d state ∷ []

-- or there are none
abbrev pub HasAtMostOne : ℕ → Situation → Option Change → List Message → Type 0
HasAtMostOne a s change notices = (notices ≡ []) ⊎ ((d : ℕ) × IsNotice a d s change notices)

abbrev change_to : Thing → ℕ → ℕ → Change
change_to x v c = record { thing = x; value = v; causer = c }

-- the notice of a change
module _ (a : ℕ) (s : Situation) where
  abbrev IsFine : Change → Type 0
  IsFine change = HasAtMostOne a s (Some change) (notice_in s change)

  state-notice : (d v c : ℕ) → c ≡ a → (same subscribed : Bool)
      → (v == s.value (State d)) ≡ same → s.subscribed d ≡ subscribed
      → IsFine (change_to (State d) v c)
  state-notice d v c own true subscribed is asked =
      inl (ap (λ it. if not it && s.subscribed d then state_changed c d v ∷ [] else []) is)
  state-notice d v c own false false is asked =
      inl (λ i. if not (is i) && asked i then state_changed c d v ∷ [] else [])
  state-notice d v c own false true is asked = inr (
    d,
    record {
      state = v;
      given = ap (λ causer. Some (change_to (State d) v causer)) own;
      subscribed = asked;
      new = λ same. absurd (cc (eq-eqb v (s.value (State d)) same, is));
      message = λ i. if not (is i) && asked i then state_changed (own i) d v ∷ [] else [];
    },
  )

  notice : (x : Thing) (v c : ℕ) → c ≡ a → IsFine (change_to x v c)
  notice (Rate k) v c own = inl refl
  notice (Enabled k) v c own = inl refl
  notice (State d) v c own =
      state-notice d v c own (v == s.value (State d)) (s.subscribed d) refl refl

  pub notices : (room : Bool) (change : Option Change)
      → ((it : Change) → change ≡ Some it → it.causer ≡ a)
      → HasAtMostOne a s change (if room then option_map_or (notice_in s) change [] else [])
  notices false change own = inl refl
  notices true None own = inl refl
  notices true (Some it) own = notice it.thing it.value it.causer (own it refl)

-- the outbox after them, if what was in it and was answered comes first
pub notified : (a : ℕ) (s t : Situation) (change : Option Change) (first notices : List Message)
    → ((d : ℕ) → t.value (State d) ≡ value_with change (State d) (s.value (State d)))
    → t.outbox ≡ first ++ notices → HasAtMostOne a s change notices
    → (t.outbox ≡ first) ⊎ ((d : ℕ) × IsNotified a d (record s { outbox = first }) t)
notified a s t change first notices value outbox (inl none) =
    inl (outbox ∙ ap (λ ms. first ++ ms) none ∙ append-nil first)
notified a s t change first notices value outbox (inr (d, is)) =
    let old = s.value (State d) in
    let state : t.value (State d) ≡ is.state
    = value d
    ∙ ap (λ it. value_with it (State d) old) is.given
    ∙ ap (λ same. unwrap_or (if same then Some is.state else None) old) (eq-eqb d d refl) in
    inr (
      d,
      record {
        subscribed = is.subscribed;
        new = λ same. is.new (sym state ∙ same);
        message =
            outbox
            ∙ ap (λ ms. first ++ ms) is.message
            ∙ ap (λ v. first ++ state_changed a d v ∷ []) (sym state);
      },
    )

each : {X : Type 0} {P : X → Type 0} (o : Option X) → ((x : X) → o ≡ Some x → P x) → IfSome o P
each None all = tt
each (Some x) all = all x refl

-- another agent's situation after a success of agent a
module _ (board : Board) (h : List Event) (a b : ℕ) (s : Situation) (differ : a ≢ b)
    (o : Option Success) (is_own : IsOwnSuccess board h a o) where
  abbrev change : Option Change
  change = option_and_then (change_now board) o

  abbrev set : Option PendingSet
  set = option_and_then (acceptance board) o

  abbrev left : List PendingSet
  left = s.pending ++ option_to_list set

  abbrev permitted : ℕ → Scope → Option Bool
  permitted d scope = option_and_then (λ it. permission_in board b d scope it.command) o

  abbrev moved : Situation
  moved =
      record {
        value = λ x. unwrap_or (option_and_then (value_in x) change) (s.value x);
        allowed = λ d scope. unwrap_or (permitted d scope) (s.allowed d scope);
        subscribed = λ d. unwrap_or (option_and_then (subscription b d) o) (s.subscribed d);
        pending = left;
        outbox = s.outbox ++ made_in b s left None change;
      }

  reaches-moved : ReachesOnly board h a s moved
  reaches-moved =
      let load = length s.outbox + 0 + length (sets_by b left) in
      record {
        change = change;
        may = each change is_own.change;
        value = λ x. refl;
        allowed = λ other d scope.
            ap (λ said. unwrap_or said (s.allowed d scope)) (is_own.permission other b d scope);
        subscribed = λ other d.
            ap (λ said. unwrap_or said (s.subscribed d)) (is_own.subscription other b d differ);
        set = set;
        own = each set is_own.set;
        pending = refl;
        outbox =
            notified a s moved change s.outbox (made_in b s left None change) (λ d. refl) refl
            (notices a s (nat_lt load OUTBOX_ROOM) change (λ it is. (is_own.change it is).0));
      }

pub reaches : (board : Board) (h : List Event) (a b : ℕ) (frame : Frame) → IsLegal board h → a ≢ b
    → Reaches board h (Command a frame) a b
reaches board h a b frame legal differ =
    subst (ReachesOnly board h a (situation_of board b h))
    (sym (situation-more board h (Command a frame) legal b)) (by frame)
  where
    by : (frame : Frame)
        → ReachesOnly board h a (situation_of board b h)
        (next board b (situation_of board b h) (deed_after board (deeds board h) (Command a frame)))
    by (Malformed len header) =
        reaches-moved board h a b (situation_of board b h) differ None (none-own board h a)
    by (Good m) =
        reaches-moved board h a b (situation_of board b h) differ
        (added_success board (deed_after board (deeds board h) (Command a (Good m))))
        (message-own board h a m)
