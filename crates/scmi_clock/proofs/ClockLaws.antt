-- The clock protocol keeps the laws of a protocol, and views that agree on the board give the same
-- replies.
use Rattle.std.proofs.Common.{rules, ◌≡◌, ◌⊎◌, inl, inr, ℕ, suc, ◌+◌, ◌-◌, ◌*◌, ◌/◌, ◌≤◌, ◌==◌, ◌&&◌, Bool, true, false, not, List, [], ◌∷◌, length, take, drop, Option, Some, None, option_map, unwrap_or, refl, sym, ap, ◌∙◌, subst, arith, if◌then◌else◌, ◌<◌, IfSome}
use Rattle.std.specs.Prelude.{min}
use Rattle.std.specs.List.{flat_map}
use Rattle.std.specs.Option.{option_or}
use Rattle.std.proofs.Math.Nat.{min-le_left, mul-div-le}
use Rattle.std.proofs.lemmas.List.{length-take}
use Rattle.scmi_codec.specs.Name.{name_words}
use Rattle.scmi_codec.specs.Payload.{begins_with_success}
use Rattle.scmi_codec.specs.Rate.{rate_words}
use Rattle.scmi_codec.specs.Reply.{bit_0, reply_unless}
use Rattle.scmi_codec.specs.declared.clock_command.ClockCommand.{ClockCommand}
use Rattle.scmi_codec.specs.declared.clock_command.ClockCommand.TheVariants as clock
use Rattle.scmi_codec.specs.declared.status.Status.TheVariants.{NotFound, InvalidParameters, NotSupported, OutOfRange, Denied, Busy}
use Rattle.scmi_plan.specs.Board.{Board, IsChannel, clock_at, is_absent, is_kept}
use Rattle.scmi_plan.specs.Rates.{SupportedRates}
use Rattle.scmi_plan.specs.Rates as rates
use Rattle.scmi_plan.specs.declared.agent_channel.AgentChannel.{AgentChannel}
use Rattle.scmi_plan.specs.declared.effect.Effect.{Effect}
use Rattle.scmi_plan.specs.declared.effect.Effect.TheVariants as effect
use Rattle.scmi_plan.specs.declared.resource.Resource.TheVariants as resource
use Rattle.scmi_base.specs.Protocol.{HasResource, IsProtocol, Succeeds, change_wanted, resource_changed}
use Rattle.scmi_base.proofs.CheckedReplies.{by_checks, checked, found, free_of, may_alone, no_room, not_forbidden, passed, room_of, set-allowed}
use Rattle.scmi_clock.proofs.RatesWithin.{rates-within}
use Rattle.scmi_clock.specs.ClockProtocol.{busy_in, clock_effect, clock_protocol, later_effect, may_in, switches_off}
use Rattle.scmi_clock.specs.ClockReply.{ClockView, clock_reply, config_checks, disables_kept, most_rates, no_clock, past_end, rates_words, set_checks}
use Rattle.scmi_clock.specs.ClockTable.{enabled_now, only_reads, rate_later, rate_now, set_clock, set_rate}
use Rattle.scmi_clock.specs.SetFlags.{is_asynchronous, is_response_wanted}
use Rattle.std.proofs.lemmas.Bool.{leb-false, cases_Bool, or_parts}

within : (board : Board) (v : ClockView) (c : ClockCommand) → IsChannel v.channel
    → length (clock_reply board v c) ≤ v.channel.words
unfolding clock_reply
within board v clock.Version law = let eight = law.0 in omega (arith, eight)
within board v clock.Attributes law = let eight = law.0 in omega (arith, eight)
within board v (clock.MessageAttributes message) law =
    let eight = law.0 in
    checked v.channel.words (omega (arith, eight)) _ _ (0 ∷ 0 ∷ []) (omega (arith, eight))
within board v (clock.ClockAttributes c) law =
    let eight = law.0 in
    checked v.channel.words (omega (arith, eight)) _ _ (0 ∷ (if v.enabled c then 1 else 0)
    ∷ name_words (clock_at board c).name) (omega (arith, eight))
within board v (clock.Describe c index) law =
    let eight = law.0 in
    let few = rates-within v.channel law (clock_at board c).rates index in
    by_checks v.channel.words (omega (arith, eight))
    ((no_clock board c, NotFound) ∷ (past_end (clock_at board c).rates index, OutOfRange) ∷ [])
    (0 ∷ rates_words v.channel (clock_at board c).rates index) (omega (arith, few))
within board v (clock.SetRate flags c rate) law =
    let eight = law.0 in
    by_checks v.channel.words (omega (arith, eight)) (set_checks board v.channel (v.may c)
    (v.busy c) v.room flags c rate) (0 ∷ []) (omega (arith, eight))
within board v (clock.GetRate c) law =
    let eight = law.0 in
    checked v.channel.words (omega (arith, eight)) _ _ (0 ∷ rate_words (v.rate c))
    (omega (arith, eight))
within board v (clock.Config c attributes) law =
    let eight = law.0 in
    by_checks v.channel.words (omega (arith, eight)) (config_checks board (v.may c
    && not (disables_kept board c attributes)) c attributes) (0 ∷ []) (omega (arith, eight))

-- what is so of a command that only reads
record Reads (board : Board) (c : ClockCommand) : Type 0 where
  pub only : only_reads c ≡ true
  pub now : rate_now board c ≡ None
  pub enabled : enabled_now c ≡ None
  pub later : rate_later board c ≡ None

-- a command gives a rate, or it enables or disables a clock, or it only reads
for_kinds : (board : Board) (P : ClockCommand → Type 0)
    → ((flags c rate : ℕ) → P (clock.SetRate flags c rate))
    → ((c attributes : ℕ) → P (clock.Config c attributes))
    → ((c : ClockCommand) → Reads board c → P c) → (c : ClockCommand) → P c
for_kinds board P rate config reads c = by c where
  plain : {c : ClockCommand} → only_reads c ≡ true → rate_now board c ≡ None → enabled_now c ≡ None
      → rate_later board c ≡ None → Reads board c
  plain only now enabled later =
      record { only = only; now = now; enabled = enabled; later = later }

  by : (c : ClockCommand) → P c
  by clock.Version = reads clock.Version (plain refl refl refl refl)
  by clock.Attributes = reads clock.Attributes (plain refl refl refl refl)
  by (clock.MessageAttributes message) =
      reads (clock.MessageAttributes message) (plain refl refl refl refl)
  by (clock.ClockAttributes c) = reads (clock.ClockAttributes c) (plain refl refl refl refl)
  by (clock.Describe c index) = reads (clock.Describe c index) (plain refl refl refl refl)
  by (clock.GetRate c) = reads (clock.GetRate c) (plain refl refl refl refl)
  by (clock.SetRate flags c given) = rate flags c given
  by (clock.Config c attributes) = config c attributes

-- a command gives a rate, or it enables or disables a clock, or it changes nothing
pub for_changes : (board : Board) (P : ClockCommand → Type 0)
    → ((flags c rate : ℕ) → P (clock.SetRate flags c rate))
    → ((c attributes : ℕ) → P (clock.Config c attributes))
    → ((c : ClockCommand) → rate_now board c ≡ None → enabled_now c ≡ None
    → rate_later board c ≡ None → P c)
    → (c : ClockCommand) → P c
for_changes board P rate config none =
    for_kinds board P rate config (λ c reads. none c reads.now reads.enabled reads.later)

-- a rate is set, or a clock is enabled or disabled, not both
pub never_both : (board : Board) (c : ClockCommand)
    → (rate_now board c ≡ None) ⊎ (enabled_now c ≡ None)
never_both board c =
    for_changes board (λ c. (rate_now board c ≡ None) ⊎ (enabled_now c ≡ None))
    (λ flags c rate. inr refl) (λ c attributes. inl refl) (λ c now enabled later. inl now) c

none_wanted : (rate : Option (ℕ × ℕ)) (enabled : Option (ℕ × Bool)) (later : Option (ℕ × ℕ × Bool))
    (e : Effect) → rate ≡ None → enabled ≡ None → later ≡ None
    → option_or (clock_effect rate enabled) (option_map later_effect later) ≡ Some e
    → {A : Type 0} → A
none_wanted None None None e r n l is = absurd (cc)
none_wanted (Some x) enabled later e r n l is = absurd (cc)
none_wanted None (Some x) later e r n l is = absurd (cc)
none_wanted None None (Some x) e r n l is = absurd (cc)

none_now : (rate : Option (ℕ × ℕ)) (enabled : Option (ℕ × Bool)) (e : Effect) → rate ≡ None
    → enabled ≡ None → clock_effect rate enabled ≡ Some e → {A : Type 0} → A
none_now rate enabled e r n is =
    none_wanted rate enabled None e r n refl (more (clock_effect rate enabled) is) where
      more : (o : Option Effect) → o ≡ Some e → option_or o None ≡ Some e
      more None same = same
      more (Some x) same = same

none_later : (o : Option (ℕ × ℕ × Bool)) (e : Effect) → o ≡ None
    → option_map later_effect o ≡ Some e → {A : Type 0} → A
none_later None e n is = absurd (cc)
none_later (Some x) e n is = absurd (cc)

-- the change of a set of a rate
wanted_is : (b wanted : Bool) (c rate : ℕ) (e : Effect)
    → option_or (clock_effect (if b then None else Some (c, rate)) None)
    (option_map later_effect (if b then Some (c, rate, wanted) else None)) ≡ Some e
    → effect.Rate c rate ≡ e
wanted_is true wanted c rate e is = ap (λ o. unwrap_or o e) is
wanted_is false wanted c rate e is = ap (λ o. unwrap_or o e) is

now_is : (b : Bool) (c rate : ℕ) (e : Effect)
    → clock_effect (if b then None else Some (c, rate)) None ≡ Some e → effect.Rate c rate ≡ e
now_is true c rate e is = absurd (cc)
now_is false c rate e is = ap (λ o. unwrap_or o e) is

at_once : (b : Bool) (set : ℕ × ℕ) (e : Effect)
    → clock_effect (if b then None else Some set) None ≡ Some e
    → b ≡ false
at_once true set e is = absurd (cc)
at_once false set e is = refl

-- a set is made now or later
one_is : (b : Bool) (now : ℕ × ℕ) (later : ℕ × ℕ × Bool)
    → clock_effect (if b then None else Some now) None ≡ None
    → option_map later_effect (if b then Some later else None) ≡ None → {A : Type 0} → A
one_is true now later none after = absurd (cc)
one_is false now later none after = absurd (cc)

-- what gives no rate, and enables and disables nothing, makes no change
no_effect : (rate : Option (ℕ × ℕ)) (enabled : Option (ℕ × Bool)) → rate ≡ None → enabled ≡ None
    → clock_effect rate enabled ≡ None
no_effect None None r n = refl
no_effect (Some x) enabled r n = absurd (cc)
no_effect None (Some x) r n = absurd (cc)

later_is : (b : Bool) (set : ℕ × ℕ × Bool) (e : Effect)
    → option_map later_effect (if b then Some set else None) ≡ Some e → b ≡ true
later_is true set e is = refl
later_is false set e is = absurd (cc)

once_set : (b : Bool) (set : ℕ × ℕ × Bool) (now : ℕ × ℕ) (e : Effect)
    → option_map later_effect (if b then Some set else None) ≡ Some e
    → clock_effect (if b then None else Some now) None ≡ None
once_set true set now e is = refl
once_set false set now e is = absurd (cc)

-- the change of a configuration
config_is : (c : ℕ) (enabled : Bool) (e : Effect) → Some (effect.Enabled c enabled) ≡ Some e
    → effect.Enabled c enabled ≡ e
config_is c enabled e is = ap (λ o. unwrap_or o e) is

-- a configuration that succeeded passed the check of its permission
config-allowed : (c1 c2 may : Bool) → begins_with_success
    (reply_unless ((c1, NotFound) ∷ (c2, InvalidParameters) ∷ (not may, Denied) ∷ []) (0 ∷ []))
    ≡ true → may ≡ true
config-allowed c1 c2 true ok = refl
config-allowed true c2 false ok = absurd (cc)
config-allowed false true false ok = absurd (cc)
config-allowed false false false ok = absurd (cc)

and_false : (b : Bool) → (b && false) ≡ false
and_false true = refl
and_false false = refl

-- a set that is accepted for later is of a caller that the platform can send to
rate-sent : (c1 c2 c4 c5 later one_way : Bool)
    → begins_with_success (reply_unless ((c1, NotFound) ∷ (c2, InvalidParameters)
    ∷ (one_way && later, NotSupported) ∷ (c4, Denied) ∷ (c5, Busy) ∷ []) (0 ∷ [])) ≡ true
    → later ≡ true → one_way ≡ false
rate-sent c1 c2 c4 c5 later false ok is = refl
rate-sent true c2 c4 c5 later true ok is = absurd (cc)
rate-sent false true c4 c5 later true ok is = absurd (cc)
rate-sent false false c4 c5 true true ok is = absurd (cc)
rate-sent false false c4 c5 false true ok is = absurd (cc)

module _ (board : Board) where
  once : (c : ClockCommand) (e : Effect) → option_map later_effect (rate_later board c) ≡ Some e
      → clock_effect (rate_now board c) (enabled_now c) ≡ None
  once c e =
      for_changes board (λ c. option_map later_effect (rate_later board c) ≡ Some e
      → clock_effect (rate_now board c) (enabled_now c) ≡ None)
      (λ flags c rate is. once_set (is_asynchronous flags) (
        c,
        set_rate board flags c rate,
        is_response_wanted flags,
      ) (c, set_rate board flags c rate) e is)
      (λ c attributes is. none_later None e refl is)
      (λ c now enabled later is. none_later (rate_later board c) e later is) c

  alone : (c : ClockCommand) (e : Effect) (a d caller : ℕ) → clock_effect (rate_now board c)
      (enabled_now c) ≡ Some e → clock_protocol.request a d caller c ≡ None
  alone c e a d caller is = refl

  module _ (v : ClockView) where
    allowed : (c : ClockCommand) (e : Effect) → Succeeds clock_protocol board v c
        → change_wanted clock_protocol board c ≡ Some e
        → may_in v (resource_changed e) ≡ true
    unfolding clock_reply
    allowed c e =
        for_changes board (λ c. begins_with_success (clock_reply board v c) ≡ true
        → change_wanted clock_protocol board c ≡ Some e → may_in v (resource_changed e) ≡ true)
        (λ flags c rate ok is.
        subst (λ x. may_in v (resource_changed x) ≡ true) (wanted_is
        (is_asynchronous flags) (is_response_wanted flags) c (set_rate board flags c rate) e is)
        (set-allowed _ _ _ _ _ ok))
        (λ c attributes ok is. subst (λ x. may_in v (resource_changed x) ≡ true)
        (config_is c (bit_0 attributes) e is) (may_alone _ _ (config-allowed _ _ _ ok)))
        (λ c now enabled later ok is. none_wanted (rate_now board c) (enabled_now c)
        (rate_later board c) e now enabled later is) c

    kept : (c : ClockCommand) (e : Effect) → Succeeds clock_protocol board v c
        → change_wanted clock_protocol board c ≡ Some e
        → (is_kept board (resource_changed e) && switches_off e) ≡ false
    unfolding clock_reply
    kept c e =
        for_changes board (λ c. begins_with_success (clock_reply board v c) ≡ true
        → change_wanted clock_protocol board c ≡ Some e
        → (is_kept board (resource_changed e) && switches_off e) ≡ false)
        (λ flags c rate ok is.
        subst (λ x. (is_kept board (resource_changed x) && switches_off x) ≡ false) (wanted_is
        (is_asynchronous flags) (is_response_wanted flags) c (set_rate board flags c rate) e is)
        (and_false (is_kept board (resource.Clock c))))
        (λ c attributes ok is.
        subst (λ x. (is_kept board (resource_changed x) && switches_off x) ≡ false)
        (config_is c (bit_0 attributes) e is) (not_forbidden _ _ (config-allowed _ _ _ ok)))
        (λ c now enabled later ok is. none_wanted (rate_now board c) (enabled_now c)
        (rate_later board c) e now enabled later is) c

    free : (c : ClockCommand) (e : Effect) → Succeeds clock_protocol board v c
        → option_map later_effect (rate_later board c) ≡ Some e → v.room ≡ true
    unfolding clock_reply
    free c e =
        for_changes board (λ c. begins_with_success (clock_reply board v c) ≡ true
        → option_map later_effect (rate_later board c) ≡ Some e → v.room ≡ true)
        (λ flags c rate ok is. room_of _ _ _ _ _ (is_asynchronous flags) v.room ok (later_is
        (is_asynchronous flags)
        (c, set_rate board flags c rate, is_response_wanted flags) e is))
        (λ c attributes ok is. none_later None e refl is)
        (λ c now enabled later ok is. none_later (rate_later board c) e later is) c

    sent : (c : ClockCommand) (e : Effect) → Succeeds clock_protocol board v c
        → option_map later_effect (rate_later board c) ≡ Some e → v.channel.one_way ≡ false
    unfolding clock_reply
    sent c e =
        for_changes board (λ c. begins_with_success (clock_reply board v c) ≡ true
        → option_map later_effect (rate_later board c) ≡ Some e → v.channel.one_way ≡ false)
        (λ flags c rate ok is. rate-sent _ _ _ _
        (is_asynchronous flags) v.channel.one_way ok (later_is (is_asynchronous flags)
        (c, set_rate board flags c rate, is_response_wanted flags) e is))
        (λ c attributes ok is. none_later None e refl is)
        (λ c now enabled later ok is. none_later (rate_later board c) e later is) c

    told : (c : ClockCommand) (a d caller : ℕ) (on : Bool) → Succeeds clock_protocol board v c
        → clock_protocol.request a d caller c ≡ Some on
        → ((caller == a) ≡ true) × (v.channel.one_way ≡ false)
    told c a d caller on ok e = absurd (cc)

    made : (c : ClockCommand) (e : Effect) → Succeeds clock_protocol board v c
        → clock_effect (rate_now board c) (enabled_now c) ≡ Some e → clock_reply board v c ≡ 0 ∷ []
    unfolding clock_reply
    made c e =
        for_changes board (λ c. begins_with_success (clock_reply board v c) ≡ true → clock_effect
        (rate_now board c) (enabled_now c) ≡ Some e → clock_reply board v c ≡ 0 ∷ [])
        (λ flags c rate ok is. passed
        (set_checks board v.channel (v.may c) (v.busy c) v.room flags c rate) ok)
        (λ c attributes ok is. passed (config_checks board
        (v.may c && not (disables_kept board c attributes)) c attributes) ok)
        (λ c now enabled later ok is. none_now (rate_now board c) (enabled_now c) e now enabled is)
        c

    known : (c : ClockCommand) (e : Effect) → Succeeds clock_protocol board v c → clock_effect
        (rate_now board c) (enabled_now c) ≡ Some e → HasResource board (resource_changed e)
    unfolding clock_reply
    known c e =
        for_changes board (λ c. begins_with_success (clock_reply board v c) ≡ true → clock_effect
        (rate_now board c) (enabled_now c) ≡ Some e → HasResource board (resource_changed e))
        (λ flags c rate ok is.
        subst (λ x. HasResource board (resource_changed x))
        (now_is (is_asynchronous flags) c (set_rate board flags c rate) e is)
        (found (length board.clocks) c (is_absent board (resource.Clock c))
        (drop 1 (set_checks board v.channel (v.may c) (v.busy c) v.room flags c rate)) ok))
        (λ c attributes ok is.
        subst (λ x. HasResource board (resource_changed x)) (config_is c (bit_0 attributes) e is)
        (found (length board.clocks) c (is_absent board (resource.Clock c)) (drop 1 (config_checks
        board (v.may c && not (disables_kept board c attributes)) c attributes)) ok))
        (λ c now enabled later ok is. none_now (rate_now board c) (enabled_now c) e now enabled is)
        c

    -- a set at once is answered the same where what its checks read of its caller is the same
    same : (w : ClockView) (flags c rate : ℕ) → is_asynchronous flags ≡ false
        → v.channel ≡ w.channel
        → v.may c ≡ w.may c → v.busy c ≡ w.busy c
        → clock_reply board v (clock.SetRate flags c rate)
        ≡ clock_reply board w (clock.SetRate flags c rate)
    unfolding clock_reply
    same w flags c rate now channel may busy =
        ap (λ (k : AgentChannel). reply_unless
        (set_checks board k (v.may c) (v.busy c) v.room flags c rate) (0 ∷ [])) channel
        ∙ ap (λ (b : Bool). reply_unless
        (set_checks board w.channel b (v.busy c) v.room flags c rate) (0 ∷ [])) may
        ∙ ap (λ (b : Bool). reply_unless
        (set_checks board w.channel (w.may c) b v.room flags c rate) (0 ∷ [])) busy
        ∙ by (no_room (is_asynchronous flags) v.room now
        ∙ sym (no_room (is_asynchronous flags) w.room now))
      where
        by : (is_asynchronous flags && not v.room) ≡ (is_asynchronous flags && not w.room)
            → reply_unless (set_checks board w.channel (w.may c) (w.busy c) v.room flags c rate)
            (0 ∷ []) ≡ reply_unless
            (set_checks board w.channel (w.may c) (w.busy c) w.room flags c rate) (0 ∷ [])
        by is = search (rules, is)

    same_config : (w : ClockView) (c attributes : ℕ) → v.may c ≡ w.may c
        → clock_reply board v (clock.Config c attributes)
        ≡ clock_reply board w (clock.Config c attributes)
    unfolding clock_reply
    same_config w c attributes may =
        ap (λ (b : Bool). reply_unless (config_checks board
        (b && not (disables_kept board c attributes)) c attributes) (0 ∷ [])) may

    still : (w : ClockView) (c : ClockCommand) (e : Effect) → Succeeds clock_protocol board v c
        → clock_effect (rate_now board c) (enabled_now c) ≡ Some e → v.channel ≡ w.channel
        → may_in v (resource_changed e) ≡ may_in w (resource_changed e)
        → (busy_in v (resource_changed e) ≡ false → busy_in w (resource_changed e) ≡ false)
        → clock_reply board v c ≡ clock_reply board w c
    unfolding clock_reply
    still w c e ok is channel may busy = by c ok is where
      IsSame : ClockCommand → Type 0
      IsSame c = Succeeds clock_protocol board v c
          → clock_effect (rate_now board c) (enabled_now c) ≡ Some e
          → clock_reply board v c ≡ clock_reply board w c

      rate-same : (flags c rate : ℕ) → IsSame (clock.SetRate flags c rate)
      rate-same flags c rate ok is =
          let own = sym (now_is (is_asynchronous flags) c (set_rate board flags c rate) e is) in
          let free : v.busy c ≡ false = free_of _ _ _ _ (v.busy c) _ ok in
          let left : v.busy c ≡ false → w.busy c ≡ false
          = subst (λ x. busy_in v (resource_changed x) ≡ false
          → busy_in w (resource_changed x) ≡ false) own busy in
          same w flags c rate
          (at_once (is_asynchronous flags) (c, set_rate board flags c rate) e is) channel
          (subst (λ x. may_in v (resource_changed x) ≡ may_in w (resource_changed x)) own may)
          (free ∙ sym (left free))

      config-same : (c attributes : ℕ) → IsSame (clock.Config c attributes)
      config-same c attributes ok is =
          let own = sym (config_is c (bit_0 attributes) e is) in
          same_config w c attributes
          (subst (λ x. may_in v (resource_changed x) ≡ may_in w (resource_changed x)) own may)

      by : (c : ClockCommand) → IsSame c
      by =
          for_changes board IsSame rate-same config-same
          (λ c now enabled later ok is. none_now (rate_now board c)
          (enabled_now c) e now enabled is)

  quiet : (c : ClockCommand) → only_reads c ≡ true
      → (clock_effect (rate_now board c) (enabled_now c) ≡ None)
      × (option_map later_effect (rate_later board c) ≡ None)
      × ((a d caller : ℕ) → clock_protocol.request a d caller c ≡ None)
  quiet =
      for_kinds board
      (λ c. only_reads c ≡ true → (clock_effect (rate_now board c) (enabled_now c) ≡ None)
      × (option_map later_effect (rate_later board c) ≡ None)
      × ((a d caller : ℕ) → clock_protocol.request a d caller c ≡ None))
      (λ flags c rate only. absurd (let no : false ≡ true = only in cc))
      (λ c attributes only. absurd (let no : false ≡ true = only in cc))
      (λ c reads only. (
        no_effect (rate_now board c) (enabled_now c) reads.now reads.enabled,
        ap (option_map later_effect) reads.later,
        λ a d caller. refl,
      ))

  acts : (c : ClockCommand) (a : ℕ) → clock_effect (rate_now board c) (enabled_now c) ≡ None
      → option_map later_effect (rate_later board c) ≡ None
      → ((d : ℕ) → clock_protocol.request a d a c ≡ None) → only_reads c ≡ true
  acts c a =
      for_kinds board
      (λ c. clock_effect (rate_now board c) (enabled_now c) ≡ None
      → option_map later_effect (rate_later board c) ≡ None
      → ((d : ℕ) → clock_protocol.request a d a c ≡ None) → only_reads c ≡ true)
      (λ flags c rate now later none.
      one_is (is_asynchronous flags) (c, set_rate board flags c rate)
      (c, set_rate board flags c rate, is_response_wanted flags) now later)
      (λ c attributes now later none. absurd
      (let no : Some (effect.Enabled c (bit_0 attributes)) ≡ None = now in cc))
      (λ c reads now later none. reads.only) c

pub clock_laws : IsProtocol clock_protocol
clock_laws = record {
  within = within;
  once = once;
  alone = alone;
  allowed = allowed;
  kept = kept;
  free = free;
  sent = sent;
  told = told;
  made = made;
  known = known;
  still = still;
  quiet = quiet;
  acts = acts;
}

-- two views say the same of each clock of the board, of room and of the channels
pub record SameView (board : Board) (v w : ClockView) : Type 0 where
  pub rate : (d : ℕ) → d < length board.clocks → v.rate d ≡ w.rate d
  pub enabled : (d : ℕ) → d < length board.clocks → v.enabled d ≡ w.enabled d
  pub may : (d : ℕ) → d < length board.clocks → v.may d ≡ w.may d
  pub busy : (d : ℕ) → d < length board.clocks → v.busy d ≡ w.busy d
  pub room : v.room ≡ w.room
  pub channel : v.channel ≡ w.channel

-- a clock that is not unknown is one of the board
on_board : (board : Board) (d : ℕ) → no_clock board d ≡ false → d < length board.clocks
on_board board d h = leb-false (length board.clocks) d (or_parts _ _ h).0

-- then each command has one reply
pub clock_reply-same : (board : Board) (v w : ClockView) → SameView board v w → (c : ClockCommand)
    → clock_reply board v c ≡ clock_reply board w c
unfolding clock_reply
clock_reply-same board v w s clock.Version = refl
clock_reply-same board v w s clock.Attributes = rw (s.channel) refl
clock_reply-same board v w s (clock.MessageAttributes message) = refl
clock_reply-same board v w s (clock.Describe d index) = rw (s.channel) refl
clock_reply-same board v w s (clock.ClockAttributes d) =
    by_clock (cases_Bool (no_clock board d)) where
      by_clock : ((no_clock board d ≡ true) ⊎ (no_clock board d ≡ false)) → clock_reply board v
          (clock.ClockAttributes d) ≡ clock_reply board w (clock.ClockAttributes d)
      by_clock (inl h) = rw h refl
      by_clock (inr h) = rw (s.enabled d (on_board board d h)) refl
clock_reply-same board v w s (clock.SetRate flags d rate) =
    by_clock (cases_Bool (no_clock board d)) where
      by_clock : ((no_clock board d ≡ true) ⊎ (no_clock board d ≡ false)) → clock_reply board v
          (clock.SetRate flags d rate) ≡ clock_reply board w (clock.SetRate flags d rate)
      by_clock (inl h) = rw h refl
      by_clock (inr h) =
          let small = on_board board d h in
          rw (s.may d small, s.busy d small, s.room, s.channel) refl
clock_reply-same board v w s (clock.GetRate d) = by_clock (cases_Bool (no_clock board d)) where
  by_clock : ((no_clock board d ≡ true) ⊎ (no_clock board d ≡ false))
      → clock_reply board v (clock.GetRate d) ≡ clock_reply board w (clock.GetRate d)
  by_clock (inl h) = rw h refl
  by_clock (inr h) = rw (s.rate d (on_board board d h)) refl
clock_reply-same board v w s (clock.Config d attributes) =
    by_clock (cases_Bool (no_clock board d)) where
      by_clock : ((no_clock board d ≡ true) ⊎ (no_clock board d ≡ false)) → clock_reply board v
          (clock.Config d attributes) ≡ clock_reply board w (clock.Config d attributes)
      by_clock (inl h) = rw h refl
      by_clock (inr h) = rw (s.may d (on_board board d h)) refl

-- whether clocks are busy, and whether there is room, is read by a set of a rate alone
pub clock_reply-loaded : (board : Board) (v w : ClockView) (c : ClockCommand) → v.rate ≡ w.rate
    → ((d : ℕ) → v.enabled d ≡ w.enabled d) → v.may ≡ w.may → v.channel ≡ w.channel
    → IfSome (set_clock c) (λ set. (d : ℕ) → d < length board.clocks → v.busy d ≡ w.busy d)
    → IfSome (set_clock c) (λ set. v.room ≡ w.room)
    → clock_reply board v c ≡ clock_reply board w c
unfolding clock_reply
clock_reply-loaded board v w clock.Version rate enabled may channel busy room = refl
clock_reply-loaded board v w clock.Attributes rate enabled may channel busy room = rw (channel) refl
clock_reply-loaded board v w (clock.MessageAttributes message) rate enabled may channel busy room =
    refl
clock_reply-loaded board v w (clock.ClockAttributes d) rate enabled may channel busy room =
    rw (enabled d) refl
clock_reply-loaded board v w (clock.Describe d index) rate enabled may channel busy room =
    rw (channel) refl
clock_reply-loaded board v w (clock.SetRate flags d r) rate enabled may channel busy room =
    clock_reply-same board v w
    (record {
      rate = λ e small. ap (λ f. f e) rate;
      enabled = λ e small. enabled e;
      may = λ e small.
          ap (λ f. f e) may;
      busy = busy;
      room = room;
      channel = channel;
    }) (clock.SetRate flags d r)
clock_reply-loaded board v w (clock.GetRate d) rate enabled may channel busy room = rw (rate) refl
clock_reply-loaded board v w (clock.Config d attributes) rate enabled may channel busy room =
    rw (may) refl
