-- The power domain protocol keeps the laws of a protocol, and views that agree on the board give
-- the same replies.
use Rattle.std.proofs.Common.{rules, ◌≡◌, ℕ, ◌≤◌, ◌==◌, ◌&&◌, ◌||◌, Bool, true, false, not, List, [], ◌∷◌, length, drop, Option, Some, None, option_map, unwrap_or, refl, sym, ap, ◌∙◌, subst, arith, if◌then◌else◌, ◌⊎◌, inl, inr, ◌<◌, IfSome}
use Rattle.std.specs.Option.{option_or}
use Rattle.std.proofs.lemmas.Bool.{eq-eqb, leb-false, cases_Bool, or_parts}
use Rattle.scmi_codec.specs.Name.{name_words}
use Rattle.scmi_codec.specs.Payload.{begins_with_success}
use Rattle.scmi_codec.specs.Reply.{Check, bit_0, other_bits, reply_unless}
use Rattle.scmi_codec.specs.declared.power_command.PowerCommand.{PowerCommand}
use Rattle.scmi_codec.specs.declared.power_command.PowerCommand.TheVariants as power
use Rattle.scmi_codec.specs.declared.status.Status.TheVariants.{NotFound, InvalidParameters, NotSupported, Denied, Busy}
use Rattle.scmi_plan.specs.Board.{Board, IsChannel, domain_at, is_absent, is_kept}
use Rattle.scmi_plan.specs.declared.agent_channel.AgentChannel.{AgentChannel}
use Rattle.scmi_plan.specs.declared.effect.Effect.{Effect}
use Rattle.scmi_plan.specs.declared.resource.Resource.TheVariants as resource
use Rattle.scmi_base.specs.Protocol.{HasResource, IsProtocol, Succeeds, change_wanted, resource_changed}
use Rattle.scmi_base.proofs.CheckedReplies.{by_checks, checked, found, free_of, may_alone, no_room, not_forbidden, passed, room_of, set-allowed}
use Rattle.scmi_power.specs.PowerProtocol.{busy_in, may_in, power_protocol, state_effect, switches_off}
use Rattle.scmi_power.specs.PowerReply.{PowerView, attributes, has_kind, has_notifications, is_state, may_set, no_domain, power_reply, set_reply}
use Rattle.scmi_power.specs.PowerTable.{notification, only_reads, set_domain, set_later, set_now}

-- the checks of a set
abbrev set_checks : Board → PowerView → (flags d state : ℕ) → List Check
set_checks board v flags d state =
    (no_domain board d, NotFound)
    ∷ (other_bits flags || not (is_state state), InvalidParameters)
    ∷ (not (has_kind v.channel (domain_at board d) flags), NotSupported)
    ∷ (not (may_set board (v.may d) d state), Denied)
    ∷ (v.busy d || (bit_0 flags && not v.room), Busy)
    ∷ []

within : (board : Board) (v : PowerView) (c : PowerCommand) → IsChannel v.channel
    → length (power_reply board v c) ≤ v.channel.words
unfolding power_reply
within board v power.Version law = let eight = law.0 in omega (arith, eight)
within board v power.Attributes law = let eight = law.0 in omega (arith, eight)
within board v (power.MessageAttributes message) law =
    let eight = law.0 in
    checked v.channel.words (omega (arith, eight)) _ _ (0 ∷ 0 ∷ []) (omega (arith, eight))
within board v (power.DomainAttributes d) law =
    let eight = law.0 in
    checked v.channel.words (omega (arith, eight)) _ _ (0 ∷ attributes v.channel (domain_at board d)
    ∷ name_words (domain_at board d).name) (omega (arith, eight))
within board v (power.Set flags d state) law =
    let eight = law.0 in
    by_checks v.channel.words (omega (arith, eight)) (set_checks board v flags d state) (0 ∷ [])
    (omega (arith, eight))
within board v (power.Get d) law =
    let eight = law.0 in
    checked v.channel.words (omega (arith, eight)) _ _ (0 ∷ v.state d ∷ []) (omega (arith, eight))
within board v (power.Notify d enable) law =
    let eight = law.0 in
    by_checks v.channel.words (omega (arith, eight)) (
    (no_domain board d, NotFound)
    ∷ (other_bits enable, InvalidParameters)
    ∷ (not (has_notifications v.channel (domain_at board d)), NotSupported)
    ∷ (not (v.may d), Denied)
    ∷ [])
    (0 ∷ []) (omega (arith, eight))

-- what is so of a command that only reads
record Reads (c : PowerCommand) : Type 0 where
  pub only : only_reads c ≡ true
  pub now : set_now c ≡ None
  pub later : set_later c ≡ None
  pub request : (a d caller : ℕ) → notification a d caller c ≡ None

-- a command is a set, or a request for notifications, or it only reads
for_kinds : (P : PowerCommand → Type 0) → ((flags d state : ℕ) → P (power.Set flags d state))
    → ((d enable : ℕ) → P (power.Notify d enable))
    → ((c : PowerCommand) → Reads c → P c) → (c : PowerCommand) → P c
for_kinds P set notify reads c = by c where
  plain : {c : PowerCommand} → only_reads c ≡ true → set_now c ≡ None → set_later c ≡ None
      → ((a d caller : ℕ) → notification a d caller c ≡ None) → Reads c
  plain only now later request =
      record { only = only; now = now; later = later; request = request }

  by : (c : PowerCommand) → P c
  by power.Version = reads power.Version (plain refl refl refl (λ a d caller. refl))
  by power.Attributes = reads power.Attributes (plain refl refl refl (λ a d caller. refl))
  by (power.MessageAttributes message) =
      reads (power.MessageAttributes message) (plain refl refl refl (λ a d caller. refl))
  by (power.DomainAttributes d) =
      reads (power.DomainAttributes d) (plain refl refl refl (λ a d caller. refl))
  by (power.Get d) = reads (power.Get d) (plain refl refl refl (λ a d caller. refl))
  by (power.Notify d enable) = notify d enable
  by (power.Set flags d state) = set flags d state

-- a command is a set, or it changes nothing
pub for_sets : (P : PowerCommand → Type 0) → ((flags d state : ℕ) → P (power.Set flags d state))
    → ((c : PowerCommand) → set_now c ≡ None → set_later c ≡ None → P c) → (c : PowerCommand) → P c
for_sets P set none =
    for_kinds P set (λ d enable. none (power.Notify d enable) refl refl)
    (λ c reads. none c reads.now reads.later)

none_now : (now later : Option (ℕ × ℕ)) (e : Effect) → now ≡ None → later ≡ None
    → option_or (option_map state_effect now) (option_map state_effect later) ≡ Some e
    → {A : Type 0} → A
none_now None None e n l is = absurd (cc)
none_now (Some x) later e n l is = absurd (cc)
none_now None (Some x) e n l is = absurd (cc)

none_of : (o : Option (ℕ × ℕ)) (e : Effect) → o ≡ None → option_map state_effect o ≡ Some e
    → {A : Type 0} → A
none_of None e n is = absurd (cc)
none_of (Some x) e n is = absurd (cc)

-- the change of a set
wanted_is : (b : Bool) (set : ℕ × ℕ) (e : Effect)
    → option_or (option_map state_effect (if b then None else Some set))
    (option_map state_effect (if b then Some set else None)) ≡ Some e
    → state_effect set ≡ e
wanted_is true set e is = ap (λ o. unwrap_or o e) is
wanted_is false set e is = ap (λ o. unwrap_or o e) is

now_is : (b : Bool) (set : ℕ × ℕ) (e : Effect)
    → option_map state_effect (if b then None else Some set) ≡ Some e → state_effect set ≡ e
now_is true set e is = absurd (cc)
now_is false set e is = ap (λ o. unwrap_or o e) is

at_once : (b : Bool) (set : ℕ × ℕ) (e : Effect)
    → option_map state_effect (if b then None else Some set) ≡ Some e → b ≡ false
at_once true set e is = absurd (cc)
at_once false set e is = refl

-- a set is made now or later
one_is : (b : Bool) (set : ℕ × ℕ) → option_map state_effect (if b then None else Some set) ≡ None
    → option_map state_effect (if b then Some set else None) ≡ None → {A : Type 0} → A
one_is true set now later = absurd (cc)
one_is false set now later = absurd (cc)

later_is : (b : Bool) (set : ℕ × ℕ) (e : Effect)
    → option_map state_effect (if b then Some set else None) ≡ Some e → b ≡ true
later_is true set e is = refl
later_is false set e is = absurd (cc)

once_set : (b : Bool) (set : ℕ × ℕ) (e : Effect)
    → option_map state_effect (if b then Some set else None) ≡ Some e
    → option_map state_effect (if b then None else Some set) ≡ None
once_set true set e is = refl
once_set false set e is = absurd (cc)

-- a set that is accepted for later is of a caller that the platform can send to
set-sent : (c1 c2 c4 c5 later one_way asynchronous synchronous : Bool)
    → begins_with_success (reply_unless ((c1, NotFound) ∷ (c2, InvalidParameters)
    ∷ (not (if later then not one_way && asynchronous else synchronous), NotSupported)
    ∷ (c4, Denied) ∷ (c5, Busy) ∷ []) (0 ∷ [])) ≡ true
    → later ≡ true → one_way ≡ false
set-sent c1 c2 c4 c5 later false asynchronous synchronous ok is = refl
set-sent true c2 c4 c5 later true asynchronous synchronous ok is = absurd (cc)
set-sent false true c4 c5 later true asynchronous synchronous ok is = absurd (cc)
set-sent false false c4 c5 true true asynchronous synchronous ok is = absurd (cc)
set-sent false false c4 c5 false true asynchronous synchronous ok is = absurd (cc)

notify-sent : (c1 c2 c4 one_way notify : Bool)
    → begins_with_success (reply_unless ((c1, NotFound) ∷ (c2, InvalidParameters)
    ∷ (not (not one_way && notify), NotSupported) ∷ (c4, Denied) ∷ []) (0 ∷ [])) ≡ true
    → one_way ≡ false
notify-sent c1 c2 c4 false notify ok = refl
notify-sent true c2 c4 true notify ok = absurd (cc)
notify-sent false true c4 true notify ok = absurd (cc)
notify-sent false false c4 true notify ok = absurd (cc)

module _ (board : Board) where
  once : (c : PowerCommand) (e : Effect) → option_map state_effect (set_later c) ≡ Some e
      → option_map state_effect (set_now c) ≡ None
  once c e =
      for_sets (λ c. option_map state_effect (set_later c) ≡ Some e
      → option_map state_effect (set_now c) ≡ None)
      (λ flags d state is. once_set (bit_0 flags) (d, state) e is)
      (λ c now later is. none_of (set_later c) e later is) c

  alone : (c : PowerCommand) (e : Effect) (a d caller : ℕ)
      → option_map state_effect (set_now c) ≡ Some e → notification a d caller c ≡ None
  alone c e a d caller =
      for_sets
      (λ c. option_map state_effect (set_now c) ≡ Some e → notification a d caller c ≡ None)
      (λ flags d state is. refl) (λ c now later is. none_of (set_now c) e now is) c

  module _ (v : PowerView) where
    allowed : (c : PowerCommand) (e : Effect) → Succeeds power_protocol board v c
        → change_wanted power_protocol board c ≡ Some e
        → may_in v (resource_changed e) ≡ true
    unfolding power_reply may_set
    allowed c e =
        for_sets (λ c. begins_with_success (power_reply board v c) ≡ true
        → change_wanted power_protocol board c ≡ Some e → may_in v (resource_changed e) ≡ true)
        (λ flags d state ok is. subst (λ x. may_in v (resource_changed x) ≡ true)
        (wanted_is (bit_0 flags) (d, state) e is) (may_alone _ _ (set-allowed _ _ _ _ _ ok)))
        (λ c now later ok is. none_now (set_now c) (set_later c) e now later is) c

    kept : (c : PowerCommand) (e : Effect) → Succeeds power_protocol board v c
        → change_wanted power_protocol board c ≡ Some e
        → (is_kept board (resource_changed e) && switches_off e) ≡ false
    unfolding power_reply may_set
    kept c e =
        for_sets (λ c. begins_with_success (power_reply board v c) ≡ true
        → change_wanted power_protocol board c ≡ Some e
        → (is_kept board (resource_changed e) && switches_off e) ≡ false)
        (λ flags d state ok is. subst (λ x. (is_kept board (resource_changed x) && switches_off x)
        ≡ false) (wanted_is (bit_0 flags) (d, state) e is)
        (not_forbidden _ _ (set-allowed _ _ _ _ _ ok)))
        (λ c now later ok is. none_now (set_now c) (set_later c) e now later is) c

    free : (c : PowerCommand) (e : Effect) → Succeeds power_protocol board v c
        → option_map state_effect (set_later c) ≡ Some e → v.room ≡ true
    unfolding power_reply
    free c e =
        for_sets (λ c. begins_with_success (power_reply board v c) ≡ true
        → option_map state_effect (set_later c) ≡ Some e → v.room ≡ true)
        (λ flags d state ok is. room_of _ _ _ _ _ (bit_0 flags) v.room ok
        (later_is (bit_0 flags) (d, state) e is))
        (λ c now later ok is. none_of (set_later c) e later is) c

    sent : (c : PowerCommand) (e : Effect) → Succeeds power_protocol board v c
        → option_map state_effect (set_later c) ≡ Some e → v.channel.one_way ≡ false
    unfolding power_reply
    sent c e =
        for_sets (λ c. begins_with_success (power_reply board v c) ≡ true
        → option_map state_effect (set_later c) ≡ Some e → v.channel.one_way ≡ false)
        (λ flags d state ok is. set-sent _ _ _ _ (bit_0 flags) v.channel.one_way _ _ ok
        (later_is (bit_0 flags) (d, state) e is))
        (λ c now later ok is. none_of (set_later c) e later is) c

    told : (c : PowerCommand) (a d caller : ℕ) (on : Bool) → Succeeds power_protocol board v c
        → notification a d caller c ≡ Some on
        → ((caller == a) ≡ true) × (v.channel.one_way ≡ false)
    unfolding power_reply
    told c a d caller on =
        for_kinds
        (λ c. begins_with_success (power_reply board v c) ≡ true
        → notification a d caller c ≡ Some on
        → ((caller == a) ≡ true) × (v.channel.one_way ≡ false))
        (λ flags domain state ok e. absurd (let no : None ≡ Some on = e in cc))
        (λ domain enable ok e. (
          own (bit_0 enable) (caller == a) (domain == d) e,
          notify-sent _ _ _ v.channel.one_way _ ok,
        ))
        (λ c reads ok e. absurd (let no = sym (reads.request a d caller) ∙ e in cc)) c
      where
        own : (to x y : Bool) → (if x && y then Some to else None) ≡ Some on → x ≡ true
        own to true y is = refl
        own to false y is = absurd (cc)

    made : (c : PowerCommand) (e : Effect) → Succeeds power_protocol board v c
        → option_map state_effect (set_now c) ≡ Some e → power_reply board v c ≡ 0 ∷ []
    unfolding power_reply
    made c e =
        for_sets (λ c. begins_with_success (power_reply board v c) ≡ true
        → option_map state_effect (set_now c) ≡ Some e → power_reply board v c ≡ 0 ∷ [])
        (λ flags d state ok is. passed (set_checks board v flags d state) ok)
        (λ c now later ok is. none_of (set_now c) e now is) c

    known : (c : PowerCommand) (e : Effect) → Succeeds power_protocol board v c
        → option_map state_effect (set_now c) ≡ Some e → HasResource board (resource_changed e)
    unfolding power_reply
    known c e =
        for_sets (λ c. begins_with_success (power_reply board v c) ≡ true
        → option_map state_effect (set_now c) ≡ Some e → HasResource board (resource_changed e))
        (λ flags d state ok is.
        subst (λ x. HasResource board (resource_changed x)) (now_is (bit_0 flags) (d, state) e is)
        (found (length board.domains) d (is_absent board (resource.Domain d))
        (drop 1 (set_checks board v flags d state)) ok))
        (λ c now later ok is. none_of (set_now c) e now is) c

    -- a set at once is answered the same where what its checks read of its caller is the same
    same : (w : PowerView) (flags d state : ℕ) → bit_0 flags ≡ false → v.channel ≡ w.channel
        → v.may d ≡ w.may d → v.busy d ≡ w.busy d
        → power_reply board v (power.Set flags d state)
        ≡ power_reply board w (power.Set flags d state)
    unfolding power_reply
    same w flags d state now channel may busy =
        ap (λ (c : AgentChannel). set_reply board c (may_set board (v.may d) d state)
        (v.busy d) v.room flags d state) channel
        ∙ ap (λ (b : Bool). set_reply board w.channel (may_set board b d state)
        (v.busy d) v.room flags d state) may
        ∙ ap (λ (b : Bool). set_reply board w.channel
        (may_set board (w.may d) d state) b v.room flags d state) busy
        ∙ by (no_room (bit_0 flags) v.room now ∙ sym (no_room (bit_0 flags) w.room now))
      where
        by : (bit_0 flags && not v.room) ≡ (bit_0 flags && not w.room)
            → set_reply board w.channel (may_set board (w.may d) d state)
            (w.busy d) v.room flags d state ≡ set_reply board w.channel
            (may_set board (w.may d) d state) (w.busy d) w.room flags d state
        by is = search (rules, is)

    still : (w : PowerView) (c : PowerCommand) (e : Effect) → Succeeds power_protocol board v c
        → option_map state_effect (set_now c) ≡ Some e → v.channel ≡ w.channel
        → may_in v (resource_changed e) ≡ may_in w (resource_changed e)
        → (busy_in v (resource_changed e) ≡ false → busy_in w (resource_changed e) ≡ false)
        → power_reply board v c ≡ power_reply board w c
    unfolding power_reply
    still w c e ok is channel may busy = by c ok is where
      same-of : (flags d state : ℕ) → Succeeds power_protocol board v (power.Set flags d state)
          → option_map state_effect (set_now (power.Set flags d state)) ≡ Some e
          → power_reply board v (power.Set flags d state)
          ≡ power_reply board w (power.Set flags d state)
      same-of flags d state ok is =
          let own = sym (now_is (bit_0 flags) (d, state) e is) in
          let free : v.busy d ≡ false = free_of _ _ _ _ (v.busy d) _ ok in
          let left : v.busy d ≡ false → w.busy d ≡ false
          = subst (λ x. busy_in v (resource_changed x) ≡ false
          → busy_in w (resource_changed x) ≡ false) own busy in
          same w flags d state (at_once (bit_0 flags) (d, state) e is) channel
          (subst (λ x. may_in v (resource_changed x) ≡ may_in w (resource_changed x)) own may)
          (free ∙ sym (left free))

      by : (c : PowerCommand) → Succeeds power_protocol board v c
          → option_map state_effect (set_now c) ≡ Some e
          → power_reply board v c ≡ power_reply board w c
      by = for_sets
          (λ c. Succeeds power_protocol board v c → option_map state_effect (set_now c) ≡ Some e
          → power_reply board v c ≡ power_reply board w c) same-of
          (λ c now later ok is. none_of (set_now c) e now is)

  quiet : (c : PowerCommand) → only_reads c ≡ true
      → (option_map state_effect (set_now c) ≡ None)
      × (option_map state_effect (set_later c) ≡ None)
      × ((a d caller : ℕ) → notification a d caller c ≡ None)
  quiet =
      for_kinds
      (λ c. only_reads c ≡ true → (option_map state_effect (set_now c) ≡ None)
      × (option_map state_effect (set_later c) ≡ None)
      × ((a d caller : ℕ) → notification a d caller c ≡ None))
      (λ flags d state only. absurd (let no : false ≡ true = only in cc))
      (λ d enable only. absurd (let no : false ≡ true = only in cc))
      (λ c reads only. (
        ap (option_map state_effect) reads.now,
        ap (option_map state_effect) reads.later,
        reads.request,
      ))

  acts : (c : PowerCommand) (a : ℕ) → option_map state_effect (set_now c) ≡ None
      → option_map state_effect (set_later c) ≡ None → ((d : ℕ) → notification a d a c ≡ None)
      → only_reads c ≡ true
  acts c a =
      for_kinds
      (λ c. option_map state_effect (set_now c) ≡ None
      → option_map state_effect (set_later c) ≡ None
      → ((d : ℕ) → notification a d a c ≡ None) → only_reads c ≡ true)
      (λ flags d state now later none. one_is (bit_0 flags) (d, state) now later)
      (λ d enable now later none. absurd (cc (none d, eq-eqb a a refl, eq-eqb d d refl)))
      (λ c reads now later none. reads.only) c

pub power_laws : IsProtocol power_protocol
power_laws = record {
  within = within;
  once = once;
  alone = alone;
  allowed = allowed;
  kept = kept;
  free = free;
  sent = sent;
  told = told;
  made = made;
  known = known;
  still = still;
  quiet = quiet;
  acts = acts;
}

-- two views say the same of each domain of the board, of room and of the channels
pub record SameView (board : Board) (v w : PowerView) : Type 0 where
  pub state : (d : ℕ) → d < length board.domains → v.state d ≡ w.state d
  pub may : (d : ℕ) → d < length board.domains → v.may d ≡ w.may d
  pub busy : (d : ℕ) → d < length board.domains → v.busy d ≡ w.busy d
  pub room : v.room ≡ w.room
  pub channel : v.channel ≡ w.channel

-- a domain that is not unknown is one of the board
on_board : (board : Board) (d : ℕ) → no_domain board d ≡ false → d < length board.domains
on_board board d h = leb-false (length board.domains) d (or_parts _ _ h).0

-- then each command has one reply
pub power_reply-same : (board : Board) (v w : PowerView) → SameView board v w → (c : PowerCommand)
    → power_reply board v c ≡ power_reply board w c
unfolding power_reply
power_reply-same board v w s power.Version = refl
power_reply-same board v w s power.Attributes = refl
power_reply-same board v w s (power.MessageAttributes message) = refl
power_reply-same board v w s (power.DomainAttributes d) = rw (s.channel) refl
power_reply-same board v w s (power.Set flags d state) =
    by_domain (cases_Bool (no_domain board d)) where
      by_domain : ((no_domain board d ≡ true) ⊎ (no_domain board d ≡ false)) → power_reply board v
          (power.Set flags d state) ≡ power_reply board w (power.Set flags d state)
      by_domain (inl h) = rw h refl
      by_domain (inr h) =
          let small = on_board board d h in
          rw (s.may d small, s.busy d small, s.room, s.channel) refl
power_reply-same board v w s (power.Get d) = by_domain (cases_Bool (no_domain board d)) where
  by_domain : ((no_domain board d ≡ true) ⊎ (no_domain board d ≡ false))
      → power_reply board v (power.Get d) ≡ power_reply board w (power.Get d)
  by_domain (inl h) = rw h refl
  by_domain (inr h) = rw (s.state d (on_board board d h)) refl
power_reply-same board v w s (power.Notify d enable) =
    by_domain (cases_Bool (no_domain board d)) where
      by_domain : ((no_domain board d ≡ true) ⊎ (no_domain board d ≡ false))
          → power_reply board v (power.Notify d enable)
          ≡ power_reply board w (power.Notify d enable)
      by_domain (inl h) = rw h refl
      by_domain (inr h) = rw (s.may d (on_board board d h), s.channel) refl

-- whether domains are busy, and whether there is room, is read by a set alone
pub power_reply-loaded : (board : Board) (v w : PowerView) (c : PowerCommand) → v.state ≡ w.state
    → v.may ≡ w.may → v.channel ≡ w.channel
    → IfSome (set_domain c) (λ set. (d : ℕ) → d < length board.domains → v.busy d ≡ w.busy d)
    → IfSome (set_domain c) (λ set. v.room ≡ w.room)
    → power_reply board v c ≡ power_reply board w c
unfolding power_reply
power_reply-loaded board v w power.Version state may channel busy room = refl
power_reply-loaded board v w power.Attributes state may channel busy room = refl
power_reply-loaded board v w (power.MessageAttributes message) state may channel busy room = refl
power_reply-loaded board v w (power.DomainAttributes d) state may channel busy room =
    rw (channel) refl
power_reply-loaded board v w (power.Set flags d s) state may channel busy room =
    power_reply-same board v w (record {
      state = λ e small. ap (λ f. f e) state;
      may = λ e small. ap
          (λ f. f e) may;
      busy = busy;
      room = room;
      channel = channel;
    }) (power.Set flags d s)
power_reply-loaded board v w (power.Get d) state may channel busy room = rw (state) refl
power_reply-loaded board v w (power.Notify d enable) state may channel busy room =
    rw (may, channel) refl
