-- What a power command leaves of the tables.
use Rattle.std.proofs.Common.{◌≡◌, ℕ, ◌+◌, ◌<◌, ◌≤◌, ◌==◌, ◌&&◌, nat_lt, Bool, true, false, not, List, [], ◌∷◌, ◌++◌, length, Option, Some, None, IfSome, Ok, unwrap_or, option_map, refl, sym, ap, ◌∙◌, subst, arith, if◌then◌else◌}
use Rattle.std.specs.List.{All}
use Rattle.std.proofs.lemmas.List.{append-nil, length-append}
use Rattle.std.proofs.lemmas.List.Elements.{All-append}
use Rattle.scmi_codec.specs.Header.{HeaderFields}
use Rattle.scmi_codec.specs.declared.message.Message.{Message}
use Rattle.scmi_codec.specs.declared.command.Command.TheVariants.{Power}
use Rattle.scmi_codec.specs.declared.power_command.PowerCommand.{PowerCommand}
use Rattle.scmi_plan.specs.Board.{Board}
use Rattle.scmi_base.specs.Permission.{is_allowed}
use Rattle.scmi_power.specs.PowerTable.{PowerTables, state_at, is_subscribed, set_to, set_now, set_later, notification}
use Rattle.scmi_codec.specs.Payload.{if_success}
use Rattle.scmi_clock.specs.ClockTable.{rate_at, enabled_at}
use Rattle.scmi_power.specs.PowerProtocol.{state_effect}
use Rattle.scmi_power.proofs.PowerLaws.{power_laws}
use Rattle.scmi_core.specs.declared.pending_set.PendingSet.{PendingSet}
use Rattle.scmi_core.specs.declared.tables.Tables.{Tables}
use Rattle.std.specs.Option.{option_and_then, option_to_list}
use Rattle.scmi_core.specs.Deed.{success_of}
use Rattle.scmi_core.specs.Commands.{permission_in, state_later}
use Rattle.scmi_core.specs.Subscriptions.{subscription}
use Rattle.scmi_core.specs.Pending.{acceptance, has_set_of, made_pending, state_set, sets_by}
use Rattle.scmi_core.specs.Value.{Change, change_now, given, Thing, State, Rate, Enabled, bit_value, value_in, change_of}
use Rattle.scmi_core.specs.Outbox.{made_in, notice_in, state_changed}
use Rattle.scmi_core.specs.Tables.{outbox_at, load_at, situation_in, value_at, IsThing, IsOfBoard}
use Rattle.scmi_core.specs.Step.{HasStepped, SameButOutboxes, SameButPending, announced_at}
use Rattle.scmi_core.proofs.Situations.{nothing-made}
use Rattle.std.specs.Int.{bit_at}
use Rattle.scmi_plan.specs.declared.resource.Resource.TheVariants as resource
use Rattle.scmi_plan.specs.declared.load.Load.{Load}
use Rattle.scmi_power.proofs.PowerLaws as power_same
use Rattle.scmi_power.specs.PowerReply.{power_reply}
use Rattle.scmi_power.specs.PowerTable as power_table
use Rattle.scmi_core.specs.Situation.{has_room, power_view}
use Rattle.scmi_core.specs.Reply.{reply_words}
use Rattle.scmi_core.proofs.Steps.{all_none, all_one, nothing_asked, of_success, pick, same_box, says_nothing, success-mapped, success-then}

abbrev pub state_change : ℕ → ℕ × ℕ → Change
state_change a set = record { thing = State set.0; value = set.1; causer = a }

-- a notification, said in two ways
told-notice : (full subscribed differs : Bool) (message : Message)
    → (if differs then (if full && subscribed then message ∷ [] else []) else [])
    ≡ (if full then (if differs && subscribed then message ∷ [] else []) else [])
told-notice true true true m = refl
told-notice true true false m = refl
told-notice true false true m = refl
told-notice true false false m = refl
told-notice false true true m = refl
told-notice false true false m = refl
told-notice false false true m = refl
told-notice false false false m = refl

power-given : (a : ℕ) (now : Option (ℕ × ℕ))
    → option_map (given a) (option_map state_effect now) ≡ option_map (state_change a) now
power-given a None = refl
power-given a (Some set) = refl

power-accepted : (a : ℕ) (header : HeaderFields) (later : Option (ℕ × ℕ)) → option_map
    (made_pending a header) (option_map state_later later) ≡ option_map (state_set a header) later
power-accepted a header None = refl
power-accepted a header (Some set) = refl

change-power : (board : Board) (a : ℕ) (header : HeaderFields) (c : PowerCommand) (reply : List ℕ)
    → change_of board (success_of a header (Ok (Power c)) reply) None
    ≡ option_map (state_change a) (if_success reply (set_now c))
change-power board a header c reply =
    success-then (change_now board) a header (Power c) reply ∙ ap (if_success reply)
    (power-given a (set_now c)) ∙ success-mapped (state_change a) reply (set_now c)

pending_sets-power : (board : Board) (a : ℕ) (header : HeaderFields) (c : PowerCommand)
    (reply : List ℕ)
    → option_and_then (acceptance board) (success_of a header (Ok (Power c)) reply)
    ≡ option_map (state_set a header) (if_success reply (set_later c))
pending_sets-power board a header c reply =
    success-then (acceptance board) a header (Power c) reply
    ∙ ap (if_success reply) (power-accepted a header (set_later c))
    ∙ success-mapped (state_set a header) reply (set_later c)

state-value : (a d old : ℕ) (changed : Option (ℕ × ℕ)) → set_to changed d old
    ≡ unwrap_or (option_and_then (value_in (State d)) (option_map (state_change a) changed)) old
state-value a d old None = refl
state-value a d old (Some set) = sym (pick (set.0 == d) set.1 old)

rate-value : (a k old : ℕ) (changed : Option (ℕ × ℕ)) → old
    ≡ unwrap_or (option_and_then (value_in (Rate k)) (option_map (state_change a) changed)) old
rate-value a k old None = refl
rate-value a k old (Some set) = refl

enabled-value : (a k old : ℕ) (changed : Option (ℕ × ℕ)) → old
    ≡ unwrap_or (option_and_then (value_in (Enabled k)) (option_map (state_change a) changed)) old
enabled-value a k old None = refl
enabled-value a k old (Some set) = refl

changed-known : (board : Board) (a : ℕ) (changed : Option (ℕ × ℕ))
    → IfSome changed (λ set. set.0 < length board.domains)
    → IfSome (option_map (state_change a) changed) (λ change. IsThing board change.thing)
changed-known board a None h = h
changed-known board a (Some set) h = h

later-known : (board : Board) (a : ℕ) (header : HeaderFields) (later : Option (ℕ × ℕ)) → 1 ≤ a
    → a ≤ length board.agents → IfSome later (λ set. set.0 < length board.domains)
    → All (IsOfBoard board) (option_to_list (option_map (state_set a header) later))
later-known board a header None lo hi h = all_none (IsOfBoard board)
later-known board a header (Some set) lo hi h =
    all_one (IsOfBoard board) (state_set a header set) (record { first = lo; last = hi; thing = h })

-- a set asks for no notification
pub no_request : (board : Board) (c : PowerCommand) (set : ℕ × ℕ) (x d a : ℕ) → set_now c ≡ Some set
    → notification x d a c ≡ None
no_request board c set x d a e =
    power_laws.alone board c (state_effect set) x d a (ap (option_map state_effect) e)

-- what is announced after a response
announced-after : (t m : Tables) (left : List PendingSet) (responses : List Message) (x a d s : ℕ)
    (differs : Bool)
    → outbox_at m x ≡ outbox_at t x ++ responses → m.pending ≡ left → differs
    ≡ not (s == state_at t.power d) → is_subscribed m.power x d ≡ is_subscribed t.power x d
    → announced_at m x a (Some (d, s)) differs
    ≡ (if nat_lt (length (outbox_at t x) + length responses + length (sets_by x left)) 16
    then notice_in (situation_in x t) (state_change a (d, s)) else [])
announced-after t m left responses x a d s differs box pend says subs =
    told-notice (nat_lt (load_at m x) 16) (is_subscribed m.power x d) differs (state_changed a d s)
    ∙ ap (λ b. if b then (if differs && is_subscribed m.power x d then state_changed a d s ∷ []
    else []) else [])
    (ap (λ l. nat_lt (l + length (sets_by x m.pending)) 16)
    (ap length box ∙ length-append (outbox_at t x) responses) ∙ ap
    (λ p. nat_lt (length (outbox_at t x) + length responses + length (sets_by x p)) 16) pend)
    ∙ ap (λ v. if nat_lt (length (outbox_at t x) + length responses + length (sets_by x left)) 16
    then (if v && is_subscribed m.power x d then state_changed a d s ∷ [] else []) else []) says
    ∙ ap (λ b. if nat_lt (length (outbox_at t x) + length responses + length (sets_by x left)) 16
    then (if not (s == state_at t.power d) && b then state_changed a d s ∷ [] else [])
    else []) subs

-- what is announced is what is made, if no response is
pub announced-made : (t n : Tables) (left : List PendingSet) (x a : ℕ) (changed : Option (ℕ × ℕ))
    (differs : Bool) → n.outboxes ≡ t.outboxes → n.pending ≡ left
    → ((set : ℕ × ℕ) → changed ≡ Some set → (differs ≡ not (set.1 == state_at t.power set.0))
    × (is_subscribed n.power x set.0 ≡ is_subscribed t.power x set.0))
    → announced_at n x a changed differs
    ≡ made_in x (situation_in x t) left None (option_map (state_change a) changed)
announced-made t n left x a None differs boxes pend facts =
    sym (nothing-made x (situation_in x t) left)
announced-made t n left x a (Some set) differs boxes pend facts =
    let fact = facts set refl in
    announced-after t n left [] x a set.0 set.1 differs
    (same_box t n x boxes ∙ sym (append-nil (outbox_at t x))) pend fact.0 fact.1

pub power-stepped : (board : Board) (t n new : Tables) (power' : PowerTables) (a : ℕ)
    (header : HeaderFields) (c : PowerCommand) (reply : List ℕ) (changed later : Option (ℕ × ℕ))
    (differs : Bool)
    → length board.domains ≤ 32 → length board.agents ≤ 8 → 1 ≤ a → a ≤ length board.agents
    → changed ≡ if_success reply (set_now c) → later ≡ if_success reply (set_later c)
    → ((d : ℕ) → d < 32 → state_at power' d ≡ set_to changed d (state_at t.power d))
    → ((x d : ℕ) → 1 ≤ x → x ≤ 8 → d < 32 → is_subscribed power' x d
    ≡ unwrap_or (if_success reply (notification x d a c)) (is_subscribed t.power x d))
    → IfSome changed (λ set. set.0 < length board.domains)
    → IfSome later (λ set. set.0 < length board.domains)
    → IfSome changed (λ set. differs ≡ not (set.1 == state_at t.power set.0))
    → SameButPending (record {
      base = t.base;
      power = power';
      clocks = t.clocks;
      pending = t.pending;
      outboxes = t.outboxes;
    }) n
    → n.pending ≡ t.pending ++ option_to_list (option_map (state_set a header) later)
    → SameButOutboxes n new
    → ((x : ℕ) → 1 ≤ x → x ≤ length board.agents
    → outbox_at new x ≡ outbox_at n x ++ announced_at n x a changed differs)
    → HasStepped board t (success_of a header (Ok (Power c)) reply) None new
power-stepped board t n new power' a header c reply changed later differs few few_agents lo hi
    is_changed is_later states subs known known_later says kept1 pend1 kept2 told2 =
    let change : change_of board (success_of a header (Ok (Power c)) reply) None
    ≡ option_map (state_change a) changed = change-power board a header c reply
    ∙ ap (option_map (state_change a)) (sym is_changed) in
    let pend : new.pending ≡ t.pending ++ option_to_list (option_map (state_set a header) later) =
    kept2.pending ∙ pend1 in
    record {
      permissions = λ x d scope lo' small. ap (λ b. is_allowed b x d scope)
          (kept2.base ∙ kept1.base) ∙ sym (says_nothing a header (Power c) reply
          (λ s. permission_in board x d scope s.command) (is_allowed t.base x d scope) refl);
      subscriptions = λ x d lo' hi' small. ap (λ p. is_subscribed p x d) (kept2.power ∙ kept1.power)
          ∙ subs x d lo' hi' small ∙ sym (ap (λ o. unwrap_or o (is_subscribed t.power x d))
          (success-then (subscription x d) a header (Power c) reply));
      values = λ x within. values x within
          ∙ ap (λ o. unwrap_or (option_and_then (value_in x) o) (value_at t x)) (sym change);
      known = subst (λ o. IfSome o (λ ch. IsThing board ch.thing)) (sym change)
          (changed-known board a changed known);
      pending = pend ∙ ap (λ o. t.pending ++ option_to_list o) (ap (option_map (state_set a header))
          is_later ∙ sym (pending_sets-power board a header c reply));
      known_sets = λ all. subst (All (IsOfBoard board)) (sym pend) (All-append
          (IsOfBoard board) t.pending (option_to_list (option_map (state_set a header) later)) all
          (later-known board a header later lo hi known_later));
      outboxes = λ x lo' hi'.
          told2 x lo' hi'
          ∙ ap (λ b. b ++ announced_at n x a changed differs) (same_box t n x kept1.outboxes)
          ∙ ap (λ b. outbox_at t x ++ b)
          (announced-made t n new.pending x a changed differs kept1.outboxes (sym (kept2.pending))
          (facts x lo' hi')
          ∙ ap (λ o. made_in x (situation_in x t) new.pending None o) (sym change));
    } where
      values : (x : Thing) → IsThing board x → value_at new x ≡ unwrap_or
          (option_and_then (value_in x) (option_map (state_change a) changed)) (value_at t x)
      values (State d) within = ap (λ p. state_at p d) (kept2.power ∙ kept1.power)
          ∙ states d (omega arith) ∙ state-value a d (state_at t.power d) changed
      values (Rate k) within = ap (λ p. rate_at p k) (kept2.clocks ∙ kept1.clocks)
          ∙ rate-value a k (rate_at t.clocks k) changed
      values (Enabled k) within = ap (λ p. bit_value (enabled_at p k)) (kept2.clocks ∙ kept1.clocks)
          ∙ enabled-value a k (bit_value (enabled_at t.clocks k)) changed

      facts : (x : ℕ) → 1 ≤ x → x ≤ length board.agents → (set : ℕ × ℕ)
          → changed ≡ Some set → (differs ≡ not (set.1 == state_at t.power set.0))
          × (is_subscribed n.power x set.0 ≡ is_subscribed t.power x set.0)
      facts x lo' hi' set e =
          let now : set_now c ≡ Some set = of_success reply (set_now c) set (sym e ∙ is_changed) in
          let inside : set.0 < length board.domains =
          subst (λ o. IfSome o (λ s. s.0 < length board.domains)) e known in (
            subst (λ o. IfSome o (λ s. differs ≡ not (s.1 == state_at t.power s.0))) e says,
            ap (λ p. is_subscribed p x set.0) kept1.power
                ∙ subs x set.0 lo' (omega (arith, few_agents)) (omega (arith, few))
                ∙ nothing_asked reply (notification x set.0 a c) (is_subscribed t.power x set.0)
                (no_request board c set x set.0 a now),
          )

-- what the protocol replies by tables and a load, which only a set reads, is the reply in the
-- situation of the tables
pub power-reply : (board : Board) (t : Tables) (a : ℕ) (load : Load) (c : PowerCommand)
    → length board.domains ≤ 32
    → IfSome (power_table.set_domain c) (λ set. (d : ℕ) → d < 32
    → (bit_at load.busy d == 1) ≡ has_set_of (resource.Domain d) t.pending)
    → IfSome (power_table.set_domain c) (λ set. load.room ≡ has_room board a (situation_in a t))
    → power_reply board (power_table.view_of board t.base t.power load a) c
    ≡ reply_words board a (situation_in a t) (Ok (Power c))
unfolding reply_words
power-reply board t a load c few busy room =
    power_same.power_reply-loaded board (power_table.view_of board t.base t.power load a)
    (power_view board a (situation_in a t)) c refl refl refl
    (below (power_table.set_domain c) busy) room
  where
    below : (o : Option ℕ) → IfSome o (λ set. (d : ℕ) → d < 32
        → (bit_at load.busy d == 1) ≡ has_set_of (resource.Domain d) t.pending)
        → IfSome o (λ set. (d : ℕ) → d < length board.domains
        → (bit_at load.busy d == 1) ≡ has_set_of (resource.Domain d) t.pending)
    below None all = all
    below (Some d) all = λ e small. all e (omega arith)
