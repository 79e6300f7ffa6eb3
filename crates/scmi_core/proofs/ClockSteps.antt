-- What a clock command or a base command leaves of the tables.
use Rattle.std.proofs.Common.{◌≡◌, ◌⊎◌, inl, inr, ℕ, ◌<◌, ◌≤◌, ◌==◌, Bool, true, false, List, [], ◌++◌, length, get_or, Option, Some, None, IfSome, Ok, unwrap_or, option_map, refl, sym, ap, ◌∙◌, subst, arith, if◌then◌else◌}
use Rattle.std.specs.List.{All}
use Rattle.std.proofs.lemmas.List.{append-nil}
use Rattle.std.proofs.lemmas.List.Elements.{All-append}
use Rattle.scmi_codec.specs.Header.{HeaderFields}
use Rattle.scmi_codec.specs.Payload.{begins_with_success}
use Rattle.scmi_codec.specs.declared.command.Command.TheVariants.{Base, Clock}
use Rattle.scmi_codec.specs.declared.base_command.BaseCommand.{BaseCommand}
use Rattle.scmi_codec.specs.declared.clock_command.ClockCommand.{ClockCommand}
use Rattle.scmi_plan.specs.Board.{Board}
use Rattle.scmi_base.specs.Permission.{Permissions, is_allowed, is_allowed_after, permission, reset_after, reset_by}
use Rattle.scmi_plan.specs.declared.scope.Scope.{Scope}
use Rattle.scmi_power.specs.PowerTable.{state_at, is_subscribed}
use Rattle.scmi_clock.specs.ClockTable.{ClockTables, rate_at, enabled_at, rate_now, rate_later, enabled_now, enabled_to, set_to}
use Rattle.scmi_codec.specs.Payload.{if_success}
use Rattle.scmi_clock.proofs.ClockLaws.{never_both}
use Rattle.scmi_core.specs.declared.pending_set.PendingSet.{PendingSet}
use Rattle.scmi_core.specs.declared.tables.Tables.{Tables}
use Rattle.std.specs.Option.{option_or, option_and_then, option_to_list}
use Rattle.scmi_core.specs.Deed.{success_with, success_of}
use Rattle.scmi_core.specs.Commands.{permission_in, rate_later_as}
use Rattle.scmi_clock.specs.ClockProtocol.{clock_effect}
use Rattle.scmi_core.specs.Subscriptions.{subscription, subscription_after_reset}
use Rattle.scmi_core.specs.Pending.{acceptance, has_set_of, made_pending, rate_set}
use Rattle.scmi_core.specs.Value.{Change, change_now, given, Thing, State, Rate, Enabled, bit_value, value_in, change_of}
use Rattle.scmi_core.specs.Tables.{outbox_at, value_at, IsThing, IsOfBoard, situation_in}
use Rattle.scmi_core.specs.Outbox.{made_in}
use Rattle.scmi_core.specs.Step.{HasStepped, SameButPending}
use Rattle.scmi_core.proofs.Situations.{nothing-made}
use Rattle.std.specs.Int.{bit_at}
use Rattle.scmi_plan.specs.declared.resource.Resource.TheVariants as resource
use Rattle.scmi_plan.specs.declared.load.Load.{Load}
use Rattle.scmi_clock.proofs.ClockLaws as clock_same
use Rattle.scmi_clock.specs.ClockReply.{clock_reply}
use Rattle.scmi_clock.specs.ClockTable as clock_table
use Rattle.scmi_core.specs.Situation.{clock_view, has_room}
use Rattle.scmi_core.specs.Reply.{reply_words}
use Rattle.scmi_core.proofs.Steps.{all_none, all_one, pick, same_box, says_nothing, success-mapped, success-then}

abbrev pub rate_change : ℕ → ℕ × ℕ → Change
rate_change a set = record { thing = Rate set.0; value = set.1; causer = a }

abbrev pub enabled_change : ℕ → ℕ × Bool → Change
enabled_change a set = record { thing = Enabled set.0; value = bit_value set.1; causer = a }

abbrev pub either : ℕ → Option (ℕ × ℕ) → Option (ℕ × Bool) → Option Change
either a rate enabled =
    option_or (option_map (rate_change a) rate) (option_map (enabled_change a) enabled)

clock-given : (a : ℕ) (rate : Option (ℕ × ℕ)) (enabled : Option (ℕ × Bool))
    → option_map (given a) (clock_effect rate enabled) ≡ either a rate enabled
clock-given a None None = refl
clock-given a None (Some set) = refl
clock-given a (Some set) enabled = refl

clock-accepted : (a : ℕ) (header : HeaderFields) (later : Option (ℕ × ℕ × Bool)) → option_map
    (made_pending a header) (option_map rate_later_as later) ≡ option_map (rate_set a header) later
clock-accepted a header None = refl
clock-accepted a header (Some set) = refl

pub effect-success : (reply : List ℕ) (rate : Option (ℕ × ℕ)) (enabled : Option (ℕ × Bool))
    → if_success reply (clock_effect rate enabled)
    ≡ clock_effect (if_success reply rate) (if_success reply enabled)
effect-success reply rate enabled = by (begins_with_success reply) where
  by : (b : Bool) → (if b then clock_effect rate enabled else None)
      ≡ clock_effect (if b then rate else None) (if b then enabled else None)
  by true = refl
  by false = refl

either-success : (a : ℕ) (reply : List ℕ) (rate : Option (ℕ × ℕ)) (enabled : Option (ℕ × Bool))
    → if_success reply (either a rate enabled)
    ≡ either a (if_success reply rate) (if_success reply enabled)
either-success a reply rate enabled = by (begins_with_success reply) where
  by : (b : Bool) → (if b then either a rate enabled else None)
      ≡ either a (if b then rate else None) (if b then enabled else None)
  by true = refl
  by false = refl

change-clock : (board : Board) (a : ℕ) (header : HeaderFields) (c : ClockCommand) (reply : List ℕ)
    → change_of board (success_of a header (Ok (Clock c)) reply) None
    ≡ either a (if_success reply (rate_now board c)) (if_success reply (enabled_now c))
change-clock board a header c reply =
    success-then (change_now board) a header (Clock c) reply
    ∙ ap (if_success reply) (clock-given a (rate_now board c) (enabled_now c))
    ∙ either-success a reply (rate_now board c) (enabled_now c)

pending_sets-clock : (board : Board) (a : ℕ) (header : HeaderFields) (c : ClockCommand)
    (reply : List ℕ)
    → option_and_then (acceptance board) (success_of a header (Ok (Clock c)) reply)
    ≡ option_map (rate_set a header) (if_success reply (rate_later board c))
pending_sets-clock board a header c reply =
    success-then (acceptance board) a header (Clock c) reply
    ∙ ap (if_success reply) (clock-accepted a header (rate_later board c))
    ∙ success-mapped (rate_set a header) reply (rate_later board c)

state-same : (a d old : ℕ) (rate : Option (ℕ × ℕ)) (enabled : Option (ℕ × Bool))
    → old ≡ unwrap_or (option_and_then (value_in (State d)) (either a rate enabled)) old
state-same a d old None None = refl
state-same a d old None (Some e) = refl
state-same a d old (Some r) e = refl

rate-value : (a k old : ℕ) (rate : Option (ℕ × ℕ)) (enabled : Option (ℕ × Bool)) → set_to rate k old
    ≡ unwrap_or (option_and_then (value_in (Rate k)) (either a rate enabled)) old
rate-value a k old None None = refl
rate-value a k old None (Some e) = refl
rate-value a k old (Some r) e = sym (pick (r.0 == k) r.1 old)

chosen : (b x old : Bool) → bit_value (if b then x else old)
    ≡ unwrap_or (if b then Some (bit_value x) else None) (bit_value old)
chosen true x old = refl
chosen false x old = refl

enabled-value : (a k : ℕ) (old : Bool) (rate : Option (ℕ × ℕ)) (enabled : Option (ℕ × Bool))
    → (rate ≡ None) ⊎ (enabled ≡ None)
    → bit_value (enabled_to enabled k old)
    ≡ unwrap_or (option_and_then (value_in (Enabled k)) (either a rate enabled)) (bit_value old)
enabled-value a k old None None one = refl
enabled-value a k old None (Some e) one = chosen (e.0 == k) e.1 old
enabled-value a k old (Some r) None one = refl
enabled-value a k old (Some r) (Some e) (inl n) = absurd (cc)
enabled-value a k old (Some r) (Some e) (inr n) = absurd (cc)

no_notice : (t : Tables) (left : List PendingSet) (x a : ℕ)
    (rate : Option (ℕ × ℕ)) (enabled : Option (ℕ × Bool))
    → [] ≡ made_in x (situation_in x t) left None (either a rate enabled)
no_notice t left x a None None = sym (nothing-made x (situation_in x t) left)
no_notice t left x a None (Some e) = sym (nothing-made x (situation_in x t) left)
no_notice t left x a (Some r) e = sym (nothing-made x (situation_in x t) left)

either-known : (board : Board) (a : ℕ) (rate : Option (ℕ × ℕ)) (enabled : Option (ℕ × Bool))
    → IfSome rate (λ set. set.0 < length board.clocks) → IfSome enabled (λ set. set.0
    < length board.clocks) → IfSome (either a rate enabled) (λ ch. IsThing board ch.thing)
either-known board a None None r e = tt
either-known board a None (Some s) r e = e
either-known board a (Some s) n r e = r

later-known : (board : Board) (a : ℕ) (header : HeaderFields) (later : Option (ℕ × ℕ × Bool))
    → 1 ≤ a → a ≤ length board.agents → IfSome later (λ set. set.0 < length board.clocks)
    → All (IsOfBoard board) (option_to_list (option_map (rate_set a header) later))
later-known board a header None lo hi h = all_none (IsOfBoard board)
later-known board a header (Some set) lo hi h =
    all_one (IsOfBoard board) (rate_set a header set) (record { first = lo; last = hi; thing = h })

both : (reply : List ℕ) (r : Option (ℕ × ℕ)) (e : Option (ℕ × Bool)) → (r ≡ None) ⊎ (e ≡ None)
    → (if_success reply r ≡ None) ⊎ (if_success reply e ≡ None)
both reply r e (inl n) = inl (rw n (nothing_when (begins_with_success reply))) where
  nothing_when : {A : Type 0} (b : Bool) → ◌≡◌ {A = Option A} (if b then None else None) None
  nothing_when true = refl
  nothing_when false = refl
both reply r e (inr n) = inr (rw n (nothing_when (begins_with_success reply))) where
  nothing_when : {A : Type 0} (b : Bool) → ◌≡◌ {A = Option A} (if b then None else None) None
  nothing_when true = refl
  nothing_when false = refl

pub clock-stepped : (board : Board) (t new : Tables) (clocks' : ClockTables) (a : ℕ)
    (header : HeaderFields) (c : ClockCommand) (reply : List ℕ) (later : Option (ℕ × ℕ × Bool))
    → length board.clocks ≤ 32 → 1 ≤ a → a ≤ length board.agents
    → later ≡ if_success reply (rate_later board c)
    → ((k : ℕ) → k < 32
    → rate_at clocks' k ≡ set_to (if_success reply (rate_now board c)) k (rate_at t.clocks k))
    → ((k : ℕ) → k < 32 → enabled_at clocks' k
    ≡ enabled_to (if_success reply (enabled_now c)) k (enabled_at t.clocks k))
    → IfSome later (λ set. set.0 < length board.clocks)
    → IfSome (if_success reply (rate_now board c)) (λ set. set.0 < length board.clocks)
    × IfSome (if_success reply (enabled_now c)) (λ set. set.0 < length board.clocks)
    → SameButPending (record {
      base = t.base;
      power = t.power;
      clocks = clocks';
      pending = t.pending;
      outboxes = t.outboxes;
    }) new
    → new.pending ≡ t.pending ++ option_to_list (option_map (rate_set a header) later)
    → HasStepped board t (success_of a header (Ok (Clock c)) reply) None new
clock-stepped board t new clocks' a header c reply later few lo hi is_later rates enabled
    known_later known kept pend =
    let change : change_of board (success_of a header (Ok (Clock c)) reply) None
    ≡ either a (if_success reply (rate_now board c)) (if_success reply (enabled_now c)) =
    change-clock board a header c reply in
    record {
      permissions = λ x d scope lo' small. ap (λ b. is_allowed b x d scope) kept.base
          ∙ sym (says_nothing a header (Clock c) reply
          (λ s. permission_in board x d scope s.command) (is_allowed t.base x d scope) refl);
      subscriptions = λ x d lo' hi' small. ap (λ p. is_subscribed p x d) kept.power
          ∙ sym (says_nothing a header (Clock c) reply (subscription x d)
          (is_subscribed t.power x d) refl);
      values = λ x within. values x within
          ∙ ap (λ o. unwrap_or (option_and_then (value_in x) o) (value_at t x)) (sym change);
      known = subst (λ o. IfSome o (λ ch. IsThing board ch.thing))
          (sym change) (either-known board a (if_success reply (rate_now board c))
          (if_success reply (enabled_now c)) known.0 known.1);
      pending = pend ∙ ap (λ o. t.pending ++ option_to_list o) (ap (option_map (rate_set a header))
          is_later ∙ sym (pending_sets-clock board a header c reply));
      known_sets = λ all. subst (All (IsOfBoard board)) (sym pend) (All-append
          (IsOfBoard board) t.pending (option_to_list (option_map (rate_set a header) later)) all
          (later-known board a header later lo hi known_later));
      outboxes = λ x lo' hi'.
          same_box t new x kept.outboxes
          ∙ sym (append-nil (outbox_at t x))
          ∙ ap (λ b. outbox_at t x ++ b)
          (no_notice t new.pending x a (if_success reply (rate_now board c))
          (if_success reply (enabled_now c))
          ∙ ap (λ o. made_in x (situation_in x t) new.pending None o) (sym change));
    } where
      values : (x : Thing)
          → IsThing board x → value_at new x ≡ unwrap_or (option_and_then (value_in x) (either a
          (if_success reply (rate_now board c)) (if_success reply (enabled_now c)))) (value_at t x)
      values (State d) within = ap (λ p. state_at p d) kept.power ∙ state-same a d (state_at t.power
          d) (if_success reply (rate_now board c)) (if_success reply (enabled_now c))
      values (Rate k) within = ap (λ p. rate_at p k) kept.clocks ∙ rates k (omega arith)
          ∙ rate-value a k (rate_at t.clocks k) (if_success reply (rate_now board c))
          (if_success reply (enabled_now c))
      values (Enabled k) within = ap (λ p. bit_value (enabled_at p k)) kept.clocks
          ∙ ap bit_value (enabled k (omega arith))
          ∙ enabled-value a k (enabled_at t.clocks k)
          (if_success reply (rate_now board c)) (if_success reply (enabled_now c))
          (both reply (rate_now board c) (enabled_now c) (never_both board c))

-- BASE

nothing : {X : Type 0} (reply : List ℕ) → ◌≡◌ {A = Option X} (if_success reply None) None
nothing reply = by (begins_with_success reply) where
  by : {X : Type 0} (b : Bool) → ◌≡◌ {A = Option X} (if b then None else None) None
  by true = refl
  by false = refl

change-base : (board : Board) (a : ℕ) (header : HeaderFields) (c : BaseCommand) (reply : List ℕ)
    → change_of board (success_of a header (Ok (Base c)) reply) None ≡ None
change-base board a header c reply = success-then (change_now board) a header (Base c) reply
    ∙ nothing reply

pending_sets-base : (board : Board) (a : ℕ) (header : HeaderFields) (c : BaseCommand) (reply : List
    ℕ) → option_and_then (acceptance board) (success_of a header (Ok (Base c)) reply) ≡ None
pending_sets-base board a header c reply = success-then (acceptance board) a header (Base c) reply
    ∙ nothing reply

-- a reset asks for nothing else
reset_alone : (o : Option Bool) → o ≡ option_or o None
reset_alone None = refl
reset_alone (Some on) = refl

pub base-stepped : (board : Board) (t new : Tables) (base' : Permissions) (a : ℕ)
    (header : HeaderFields) (c : BaseCommand) (reply : List ℕ)
    → ((x d : ℕ) (scope : Scope) → 1 ≤ x → d < 32
    → is_allowed base' x d scope ≡ is_allowed_after board reply x d scope c t.base)
    → ((x d : ℕ) → 1 ≤ x → x ≤ 8 → d < 32 → is_subscribed new.power x d
    ≡ unwrap_or (subscription_after_reset x (reset_after reply c)) (is_subscribed t.power x d))
    → new.power.states ≡ t.power.states → new.base ≡ base' → new.clocks ≡ t.clocks
    → new.pending ≡ t.pending → new.outboxes ≡ t.outboxes
    → HasStepped board t (success_of a header (Ok (Base c)) reply) None new
base-stepped board t new base' a header c reply permits ends states bases clocks pend boxes =
    let change : change_of board (success_of a header (Ok (Base c)) reply) None ≡ None =
    change-base board a header c reply in
    record {
      permissions = λ x d scope lo' small. ap (λ b. is_allowed b x d scope) bases
          ∙ permits x d scope lo' small
          ∙ permitted (begins_with_success reply) x d scope (is_allowed t.base x d scope);
      subscriptions = λ x d lo' hi' small. ends x d lo' hi' small
          ∙ unsubscribed (begins_with_success reply) x d (is_subscribed t.power x d);
      values = λ x within. values x
          ∙ ap (λ o. unwrap_or (option_and_then (value_in x) o) (value_at t x)) (sym change);
      known = subst (λ o. IfSome o (λ ch. IsThing board ch.thing)) (sym change) tt;
      pending = pend ∙ sym (append-nil t.pending) ∙ ap (λ o. t.pending ++ option_to_list o)
          (sym (pending_sets-base board a header c reply));
      known_sets = λ all. subst (All (IsOfBoard board)) (sym pend) all;
      outboxes = λ x lo' hi'.
          same_box t new x boxes
          ∙ sym (append-nil (outbox_at t x))
          ∙ ap (λ b. outbox_at t x ++ b)
          (sym (nothing-made x (situation_in x t) new.pending)
          ∙ ap (λ o. made_in x (situation_in x t) new.pending None o) (sym change));
    } where
      permitted : (b : Bool) (x d : ℕ) (scope : Scope) (old : Bool)
          → (if b then unwrap_or (permission board x d scope c) old else old)
          ≡ unwrap_or (option_and_then (λ s. permission_in board x d scope s.command)
          (if b then success_with a header (Ok (Base c)) else None)) old
      permitted true x d scope old = refl
      permitted false x d scope old = refl

      unsubscribed : (b : Bool) (x d : ℕ) (old : Bool) → unwrap_or (subscription_after_reset x
          (if b then reset_by c else None)) old ≡ unwrap_or (option_and_then (subscription x d)
          (if b then success_with a header (Ok (Base c)) else None)) old
      unsubscribed true x d old =
          ap (λ o. unwrap_or o old) (reset_alone (subscription_after_reset x (reset_by c)))
      unsubscribed false x d old = refl

      values : (x : Thing) → value_at new x ≡ value_at t x
      values (State d) = ap (λ s. get_or s d 0) states
      values (Rate k) = ap (λ p. rate_at p k) clocks
      values (Enabled k) = ap (λ p. bit_value (enabled_at p k)) clocks

bit_said : (b : Bool) → b ≡ (bit_value b == 1)
bit_said true = refl
bit_said false = refl

-- what the protocol replies by tables and a load, which only a set reads, is the reply in the
-- situation of the tables
pub clock-reply : (board : Board) (t : Tables) (a : ℕ) (load : Load) (c : ClockCommand)
    → length board.clocks ≤ 32
    → IfSome (clock_table.set_clock c) (λ set. (d : ℕ) → d < 32
    → (bit_at load.busy d == 1) ≡ has_set_of (resource.Clock d) t.pending)
    → IfSome (clock_table.set_clock c) (λ set. load.room ≡ has_room board a (situation_in a t))
    → clock_reply board (clock_table.view_of board t.base t.clocks load a) c
    ≡ reply_words board a (situation_in a t) (Ok (Clock c))
unfolding reply_words
clock-reply board t a load c few busy room =
    clock_same.clock_reply-loaded board (clock_table.view_of board t.base t.clocks load a)
    (clock_view board a (situation_in a t)) c refl
    (λ e. bit_said (clock_table.enabled_at t.clocks e)) refl refl
    (below (clock_table.set_clock c) busy) room
  where
    below : (o : Option ℕ) → IfSome o (λ set. (d : ℕ) → d < 32
        → (bit_at load.busy d == 1) ≡ has_set_of (resource.Clock d) t.pending)
        → IfSome o (λ set. (d : ℕ) → d < length board.clocks
        → (bit_at load.busy d == 1) ≡ has_set_of (resource.Clock d) t.pending)
    below None all = all
    below (Some d) all = λ e small. all e (omega arith)
