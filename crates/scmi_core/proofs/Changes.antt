-- What a change that the hardware made leaves: of a command that makes it at once, and of a set
-- that completes.
use Rattle.std.proofs.Common.{Bool, true, false, ◌≡◌, ℕ, ◌+◌, ◌-◌, ◌≤◌, ◌==◌, ◌&&◌, nat_lt, not, List, [], ◌∷◌, ◌++◌, length, drop, get_or, slice_get, Option, Some, None, Ok, IfSome, option_map, unwrap_or, refl, sym, ap, ◌∙◌, subst, arith, if◌then◌else◌}
use Rattle.std.specs.Int.{bit_at}
use Rattle.std.specs.List.{All}
use Rattle.std.specs.Option.{option_and_then, option_or, option_to_list}
use Rattle.std.proofs.lemmas.List.{append_assoc, append-nil, length-append}
use Rattle.std.proofs.lemmas.List.Elements.{All-drop}
use Rattle.scmi_codec.specs.Header.{HeaderFields}
use Rattle.scmi_codec.specs.declared.command.Command as codec
use Rattle.scmi_codec.specs.declared.message.Message.{Message}
use Rattle.scmi_codec.specs.Payload.{begins_with_success, if_success}
use Rattle.scmi_plan.specs.Board.{Board}
use Rattle.scmi_plan.specs.declared.effect.Effect.{Effect}
use Rattle.scmi_plan.specs.declared.effect.Effect.TheVariants as effect
use Rattle.scmi_base.specs.Permission.{is_allowed}
use Rattle.scmi_power.specs.PowerTable.{is_subscribed, state_at}
use Rattle.scmi_clock.specs.ClockTable.{enabled_at, rate_at}
use Rattle.scmi_core.specs.declared.pending_set.PendingSet.{PendingSet}
use Rattle.scmi_core.specs.declared.tables.Tables.{Tables}
use Rattle.scmi_core.specs.Commands.{Later, later_of, now_of, request_of, setting_effect}
use Rattle.scmi_core.specs.Deed.{Success, success_of}
use Rattle.scmi_core.specs.Effect.{effect_of}
use Rattle.scmi_core.specs.Outbox.{made_in, notice_in, response_for, state_changed}
use Rattle.scmi_core.specs.Pending.{acceptance, made_pending, sets_by}
use Rattle.scmi_core.specs.Step.{HasChanged, HasStepped}
use Rattle.scmi_core.specs.Subscriptions.{subscription, subscription_after_reset}
use Rattle.scmi_core.specs.Tables.{IsOfBoard, IsThing, outbox_at, situation_in, value_at}
use Rattle.scmi_core.specs.Value.{Change, Enabled, Rate, State, Thing, bit_value, change_now, change_of, completion, given, value_in}
use Rattle.scmi_core.proofs.CommandLaws.{command_laws, unreset}
use Rattle.scmi_core.proofs.Steps.{success-then}

-- a change is its effect's, whoever caused it
pub effect-given : (a : ℕ) (e : Effect) → effect_of (given a e) ≡ e
effect-given a (effect.State d state) = refl
effect-given a (effect.Rate c rate) = refl
effect-given a (effect.Enabled c true) = refl
effect-given a (effect.Enabled c false) = refl

-- A COMMAND THAT MAKES IT AT ONCE

-- the effect of a command is what it makes, if it succeeds
pub command-effect : (board : Board) (a : ℕ) (header : HeaderFields) (c : codec.Command)
    (reply : List ℕ)
    → if_success reply (now_of board c)
    ≡ option_map effect_of (change_of board (success_of a header (Ok c) reply) None)
command-effect board a header c reply =
    by (begins_with_success reply) (now_of board c)
    ∙ ap (option_map effect_of) (sym (success-then (change_now board) a header c reply)) where
      by : (b : Bool) (now : Option Effect) → (if b then now else None)
          ≡ option_map effect_of (if b then option_map (given a) now else None)
      by true None = refl
      by true (Some e) = ap Some (sym (effect-given a e))
      by false now = refl

-- it leaves no set for later
pub none_later : (later : Option Later) (now : Option Effect) (e : Effect)
    → ((f : Effect) → option_map (λ l. setting_effect l.setting) later ≡ Some f → now ≡ None)
    → now ≡ Some e → later ≡ None
none_later None now e once is = refl
none_later (Some l) now e once is =
    absurd (let no = sym (once (setting_effect l.setting) refl) ∙ is in cc)

pub made-stepped : (board : Board) (t new : Tables) (a : ℕ) (header : HeaderFields)
    (c : codec.Command) (e : Effect) → now_of board c ≡ Some e
    → HasChanged board (given a e) t new
    → HasStepped board t (Some (record { caller = a; header = header; command = c })) None new
made-stepped board t new a header c e now it =
    let laws = command_laws board a in
    let success : Success = record { caller = a; header = header; command = c } in
    let alone = unreset board a board c e now in
    let change : change_now board success ≡ Some (given a e) = ap (option_map (given a)) now in
    let later : acceptance board success ≡ None = ap (option_map (made_pending a header))
    (none_later (later_of board c) (now_of board c) e (laws.once board c) now) in
    let silent : (x d : ℕ) → subscription x d success ≡ None = λ x d.
    ap (λ r. option_or (subscription_after_reset x r) (request_of x d a c)) alone.0
    ∙ laws.alone board c e x d a now in
    record {
      permissions = λ x d scope lo small. ap (λ b. is_allowed b x d scope) it.base
          ∙ ap (λ o. unwrap_or o (is_allowed t.base x d scope)) (sym (alone.1 x d scope));
      subscriptions = λ x d lo hi small.
          ap (λ l. bit_at (get_or l d 0) (x - 1) == 1) it.subscribers
          ∙ ap (λ o. unwrap_or o (is_subscribed t.power x d)) (sym (silent x d));
      values = λ x within. it.values x within
          ∙ ap (λ o. unwrap_or (option_and_then (value_in x) o) (value_at t x)) (sym change);
      known = subst (λ o. IfSome o (λ ch. IsThing board ch.thing)) (sym change) it.known;
      pending = it.pending ∙ sym (append-nil t.pending)
          ∙ ap (λ o. t.pending ++ option_to_list o) (sym later);
      known_sets = λ all. subst (All (IsOfBoard board)) (sym it.pending) all;
      outboxes = λ x lo hi.
          it.outboxes x lo hi
          ∙ ap (λ sets. outbox_at t x ++ made_in x (situation_in x t) sets None (Some (given a e)))
          (sym it.pending)
          ∙ ap (λ o. outbox_at t x ++ made_in x (situation_in x t) new.pending None o) (sym change);
    }

-- A SET THAT COMPLETES

notice-same : (t m : Tables) (x : ℕ) (change : Change) → m.power ≡ t.power
    → notice_in (situation_in x m) change ≡ notice_in (situation_in x t) change
notice-same t m x change power = by change.thing where
  by : (thing : Thing)
      → notice_in (situation_in x m) (record {
        thing = thing;
        value = change.value;
        causer = change.causer;
      }) ≡ notice_in (situation_in x t)
      (record { thing = thing; value = change.value; causer = change.causer })
  by (State d) = ap (λ p. if not (change.value == state_at p d) && is_subscribed p x d
      then state_changed change.causer d change.value ∷ [] else []) power
  by (Rate k) = refl
  by (Enabled k) = refl

-- what is made for an agent after its responses
after-responses : (t m : Tables) (x : ℕ) (change : Change) (responses : List Message)
    → m.power ≡ t.power → outbox_at m x ≡ outbox_at t x ++ responses
    → made_in x (situation_in x m) m.pending None (Some change)
    ≡ (if nat_lt (length (outbox_at t x) + length responses + length (sets_by x m.pending)) 16
    then notice_in (situation_in x t) change else [])
after-responses t m x change responses power box =
    ap (λ n. if nat_lt (n + length (sets_by x m.pending)) 16
    then notice_in (situation_in x m) change else []) load
    ∙ ap (λ notices. if nat_lt (length (outbox_at t x) + length responses + length
    (sets_by x m.pending)) 16 then notices else []) (notice-same t m x change power) where
      load : length (outbox_at m x) + 0 ≡ length (outbox_at t x) + length responses
      load =
          let is = ap length box in
          let two = length-append (outbox_at t x) responses in
          omega (arith, is, two)

pub completed-stepped : (board : Board) (t m new : Tables) (p : PendingSet)
    → slice_get t.pending 0 ≡ Some p
    → m.base ≡ t.base → m.power ≡ t.power → m.clocks ≡ t.clocks → m.pending ≡ drop 1 t.pending
    → ((x : ℕ) → 1 ≤ x → outbox_at m x ≡ outbox_at t x ++ response_for x p)
    → HasChanged board (completion p) m new → HasStepped board t None (slice_get t.pending 0) new
completed-stepped board t m new p first base power clocks rest told it =
    let change = completion p in
    let pend : new.pending ≡ drop 1 t.pending = it.pending ∙ rest in
    subst (λ o. HasStepped board t None o new) (sym first) (record {
      permissions = λ x d scope lo small. ap (λ b. is_allowed b x d scope) (it.base ∙ base);
      subscriptions = λ x d lo hi small. ap (λ l. bit_at (get_or l d 0) (x - 1) == 1)
          (it.subscribers ∙ ap (λ table. table.subscribers) power);
      values = λ x within. it.values x within ∙ ap (unwrap_or (value_in x change)) (same x);
      known = it.known;
      pending = pend ∙ sym (append-nil (drop 1 t.pending));
      known_sets = λ all. subst (All (IsOfBoard board)) (sym pend)
          (All-drop (IsOfBoard board) 1 t.pending all);
      outboxes = λ x lo hi.
          it.outboxes x lo hi
          ∙ ap (λ b. b ++ made_in x (situation_in x m) m.pending None (Some change)) (told x lo)
          ∙ append_assoc (outbox_at t x) (response_for x p)
          (made_in x (situation_in x m) m.pending None (Some change))
          ∙ ap (λ ys. outbox_at t x ++ (response_for x p ++ ys))
          (after-responses t m x change (response_for x p) power (told x lo)
          ∙ ap (λ sets. if nat_lt
          (length (outbox_at t x) + length (response_for x p) + length (sets_by x sets)) 16
          then notice_in (situation_in x t) change else []) (sym it.pending));
    }) where
      same : (x : Thing) → value_at m x ≡ value_at t x
      same (State d) = ap (λ table. state_at table d) power
      same (Rate k) = ap (λ table. rate_at table k) clocks
      same (Enabled k) = ap (λ table. bit_value (enabled_at table k)) clocks
