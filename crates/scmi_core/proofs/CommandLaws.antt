-- The commands of all protocols keep the laws of a protocol: the one file of proofs with an arm for
-- each.
use Rattle.std.proofs.Common.{◌≢◌, ◌≡◌, ℕ, ◌==◌, ◌≤◌, ◌&&◌, Bool, true, false, not, [], ◌∷◌, length, Option, Some, None, option_map, unwrap_or, refl, sym, ap, ◌∙◌, subst}
use Rattle.std.specs.Option.{option_or}
use Rattle.std.proofs.lemmas.Bool.{eq-eqb, eqb-true}
use Rattle.scmi_codec.specs.Payload.{begins_with_success}
use Rattle.scmi_codec.specs.Reply.{other_bits}
use Rattle.scmi_codec.specs.declared.base_command.BaseCommand.TheVariants as base
use Rattle.scmi_codec.specs.declared.command.Command as codec
use Rattle.scmi_codec.specs.declared.command.Command.TheVariants.{Base, Power, Clock}
use Rattle.scmi_plan.specs.Board.{Board, IsChannel, channel_of, is_kept}
use Rattle.scmi_plan.specs.declared.effect.Effect.{Effect}
use Rattle.scmi_plan.specs.declared.effect.Effect.TheVariants as effect
use Rattle.scmi_plan.specs.declared.resource.Resource.{Resource}
use Rattle.scmi_plan.specs.declared.resource.Resource.TheVariants as resource
use Rattle.scmi_plan.specs.declared.scope.Scope.{Scope}
use Rattle.scmi_plan.specs.declared.scope.Scope.TheVariants as scope
use Rattle.scmi_base.specs.BaseReply.{base_reply, no_agent}
use Rattle.scmi_base.specs.Permission.{is_scope, may, protocol_named}
use Rattle.scmi_base.specs.Protocol.{HasResource, IsProtocol, Succeeds, change_wanted, resource_changed}
use Rattle.scmi_base.proofs.BaseLaws as base_laws
use Rattle.scmi_power.specs.PowerProtocol.{state_effect}
use Rattle.scmi_power.specs.PowerTable.{set_later, set_now}
use Rattle.scmi_power.proofs.PowerLaws as power_same
use Rattle.scmi_power.proofs.PowerLaws.{power_laws}
use Rattle.scmi_clock.specs.ClockProtocol as clock
use Rattle.scmi_clock.specs.ClockProtocol.{clock_effect, clock_protocol, later_effect}
use Rattle.scmi_clock.specs.ClockTable.{enabled_now, rate_later, rate_now}
use Rattle.scmi_clock.proofs.ClockLaws as clock_same
use Rattle.scmi_clock.proofs.ClockLaws.{clock_laws}
use Rattle.scmi_core.specs.Commands.{grants_nothing, permission_in, Later, Views, later_effect_of, now_of, rate_later_as, reply_by, request_of, reset_of, setting_effect, state_later}
use Rattle.scmi_core.specs.Laws.{IsTrusted}
use Rattle.scmi_core.specs.Pending.{has_set_of}
use Rattle.scmi_core.specs.Reply.{commands}
use Rattle.scmi_core.specs.Situation.{Situation, clock_view, has_room, power_view, views}
use Rattle.scmi_core.specs.Value.{bit_value, is_off, thing_of, value_of}
use Rattle.scmi_codec.specs.Header.{HeaderFields}

one : (e f : Effect) → Some e ≡ Some f → e ≡ f
one e f is = ap (λ o. unwrap_or o f) is

-- the change of a set for later, said in two ways
abbrev changes : Option Later → Option Effect
changes later = option_map (λ l. setting_effect l.setting) later

state-later : (o : Option (ℕ × ℕ)) → changes (option_map state_later o) ≡ option_map state_effect o
state-later None = refl
state-later (Some set) = refl

rate-later : (o : Option (ℕ × ℕ × Bool))
    → changes (option_map rate_later_as o) ≡ option_map later_effect o
rate-later None = refl
rate-later (Some set) = refl

-- a command of power domains changes a domain's state
state-now : (now : Option (ℕ × ℕ)) (e : Effect) → option_map state_effect now ≡ Some e
    → (set : ℕ × ℕ) × (state_effect set ≡ e)
state-now None e is = absurd (cc)
state-now (Some set) e is = (set, one (state_effect set) e is)

state-wanted : (now later : Option (ℕ × ℕ)) (e : Effect)
    → option_or (option_map state_effect now) (changes (option_map state_later later)) ≡ Some e
    → (set : ℕ × ℕ) × (state_effect set ≡ e) × (option_or (option_map state_effect now)
    (option_map state_effect later) ≡ Some (state_effect set))
state-wanted (Some set) later e is = (set, one (state_effect set) e is, refl)
state-wanted None (Some set) e is = (set, one (state_effect set) e is, refl)
state-wanted None None e is = absurd (cc)

-- and one of clocks what is of a clock
clock-now : (rate : Option (ℕ × ℕ)) (enabled : Option (ℕ × Bool)) (e : Effect)
    → clock_effect rate enabled ≡ Some e → (c : ℕ) × (resource_changed e ≡ resource.Clock c)
clock-now (Some set) enabled e is =
    (set.0, ap resource_changed (sym (one (effect.Rate set.0 set.1) e is)))
clock-now None (Some set) e is =
    (set.0, ap resource_changed (sym (one (effect.Enabled set.0 set.1) e is)))
clock-now None None e is = absurd (cc)

clock-wanted : (rate : Option (ℕ × ℕ)) (enabled : Option (ℕ × Bool)) (later : Option (ℕ × ℕ × Bool))
    (e : Effect)
    → option_or (clock_effect rate enabled) (changes (option_map rate_later_as later)) ≡ Some e
    → option_or (clock_effect rate enabled) (option_map later_effect later) ≡ Some e
clock-wanted rate enabled later e is =
    ap (option_or (clock_effect rate enabled)) (sym (rate-later later)) ∙ is

off_bit : (b : Bool) → (bit_value b == 0) ≡ not b
off_bit true = refl
off_bit false = refl

module _ (board : Board) (a : ℕ) where
  may-clock : (s : Situation) (r : Resource) → clock.may_in (clock_view board a s) r ≡ true
      → may board s.allowed r ≡ true
  may-clock s (resource.Domain d) is = absurd (cc)
  may-clock s (resource.Clock c) is = is

  -- what a clock's command does not switch off, as each change says it
  pub kept-clock : (on : Board) (s : Situation) (e : Effect)
      → clock.may_in (clock_view board a s) (resource_changed e) ≡ true
      → (is_kept on (resource_changed e) && clock.switches_off e) ≡ false
      → (is_kept on (resource_changed e) && is_off (thing_of e) (value_of e)) ≡ false
  kept-clock on s (effect.State d state) may kept = absurd (cc)
  kept-clock on s (effect.Rate c rate) may kept = kept
  kept-clock on s (effect.Enabled c enabled) may kept =
      ap (λ b. is_kept on (resource.Clock c) && b) (off_bit enabled) ∙ kept

  clock-may-same : (s u : Situation) (r : Resource) (c : ℕ) → r ≡ resource.Clock c
      → may board s.allowed r ≡ may board u.allowed r
      → clock.may_in (clock_view board a s) r ≡ clock.may_in (clock_view board a u) r
  clock-may-same s u r c is same =
      subst (λ x. clock.may_in (clock_view board a s) x ≡ clock.may_in (clock_view board a u) x)
      (sym is) (subst (λ x. may board s.allowed x ≡ may board u.allowed x) is same)

  clock-busy-same : (s u : Situation) (r : Resource) (c : ℕ) → r ≡ resource.Clock c
      → (has_set_of r s.pending ≡ false → has_set_of r u.pending ≡ false)
      → clock.busy_in (clock_view board a s) r ≡ false
      → clock.busy_in (clock_view board a u) r ≡ false
  clock-busy-same s u r c is same =
      subst (λ x. clock.busy_in (clock_view board a s) x ≡ false
      → clock.busy_in (clock_view board a u) x ≡ false) (sym is)
      (subst (λ x. has_set_of x s.pending ≡ false → has_set_of x u.pending ≡ false) is same)

  within : (on : Board) (s : Situation) (c : codec.Command) → IsChannel (channel_of board a)
      → length (reply_by on a (views board a s) c) ≤ (channel_of board a).words
  within on s (Base c) fits = base_laws.within (channel_of board a).words fits.0 on a c
  within on s (Power c) fits = power_laws.within on (power_view board a s) c fits
  within on s (Clock c) fits = clock_laws.within on (clock_view board a s) c fits

  once : (on : Board) (c : codec.Command) (e : Effect) → later_effect_of on c ≡ Some e
      → now_of on c ≡ None
  once on (Base c) e is = refl
  once on (Power c) e is = power_laws.once on c e (sym (state-later (set_later c)) ∙ is)
  once on (Clock c) e is = clock_laws.once on c e (sym (rate-later (rate_later on c)) ∙ is)

  alone : (on : Board) (c : codec.Command) (e : Effect) (b d caller : ℕ) → now_of on c ≡ Some e
      → request_of b d caller c ≡ None
  alone on (Base c) e b d caller is = refl
  alone on (Power c) e b d caller is = power_laws.alone on c e b d caller is
  alone on (Clock c) e b d caller is = clock_laws.alone on c e b d caller is

  allowed : (on : Board) (s : Situation) (c : codec.Command) (e : Effect)
      → Succeeds (commands board a) on s c → change_wanted (commands board a) on c ≡ Some e
      → may board s.allowed (resource_changed e) ≡ true
  allowed on s (Base c) e ok is = absurd (cc)
  allowed on s (Power c) e ok is =
      let x = state-wanted (set_now c) (set_later c) e is in
      subst (λ f. may board s.allowed (resource_changed f) ≡ true) x.1
      (power_laws.allowed on (power_view board a s) c (state_effect x.0) ok x.2)
  allowed on s (Clock c) e ok is =
      may-clock s (resource_changed e) (clock_laws.allowed on (clock_view board a s) c e ok
      (clock-wanted (rate_now on c) (enabled_now c) (rate_later on c) e is))

  kept : (on : Board) (s : Situation) (c : codec.Command) (e : Effect)
      → Succeeds (commands board a) on s c → change_wanted (commands board a) on c ≡ Some e
      → (is_kept on (resource_changed e) && is_off (thing_of e) (value_of e)) ≡ false
  kept on s (Base c) e ok is = absurd (cc)
  kept on s (Power c) e ok is =
      let x = state-wanted (set_now c) (set_later c) e is in
      subst (λ f. (is_kept on (resource_changed f) && is_off (thing_of f) (value_of f)) ≡ false) x.1
      (power_laws.kept on (power_view board a s) c (state_effect x.0) ok x.2)
  kept on s (Clock c) e ok is =
      let v = clock_view board a s in
      let wanted = clock-wanted (rate_now on c) (enabled_now c) (rate_later on c) e is in
      kept-clock on s e (clock_laws.allowed on v c e ok wanted) (clock_laws.kept on v c e ok wanted)

  free : (on : Board) (s : Situation) (c : codec.Command) (e : Effect) → Succeeds
      (commands board a) on s c → later_effect_of on c ≡ Some e → has_room board a s ≡ true
  free on s (Base c) e ok is = absurd (cc)
  free on s (Power c) e ok is =
      power_laws.free on (power_view board a s) c e ok (sym (state-later (set_later c)) ∙ is)
  free on s (Clock c) e ok is =
      clock_laws.free on (clock_view board a s) c e ok (sym (rate-later (rate_later on c)) ∙ is)

  sent : (on : Board) (s : Situation) (c : codec.Command) (e : Effect) → Succeeds (commands board a)
      on s c → later_effect_of on c ≡ Some e → (channel_of board a).one_way ≡ false
  sent on s (Base c) e ok is = absurd (cc)
  sent on s (Power c) e ok is =
      power_laws.sent on (power_view board a s) c e ok (sym (state-later (set_later c)) ∙ is)
  sent on s (Clock c) e ok is =
      clock_laws.sent on (clock_view board a s) c e ok (sym (rate-later (rate_later on c)) ∙ is)

  told : (on : Board) (s : Situation) (c : codec.Command) (b d caller : ℕ) (asks : Bool)
      → Succeeds (commands board a) on s c → request_of b d caller c ≡ Some asks
      → ((caller == b) ≡ true) × ((channel_of board a).one_way ≡ false)
  told on s (Base c) b d caller asks ok is = absurd (cc)
  told on s (Power c) b d caller asks ok is =
      power_laws.told on (power_view board a s) c b d caller asks ok is
  told on s (Clock c) b d caller asks ok is =
      clock_laws.told on (clock_view board a s) c b d caller asks ok is

  made : (on : Board) (s : Situation) (c : codec.Command) (e : Effect) → Succeeds
      (commands board a) on s c → now_of on c ≡ Some e → reply_by on a (views board a s) c ≡ 0 ∷ []
  made on s (Base c) e ok is = absurd (cc)
  made on s (Power c) e ok is = power_laws.made on (power_view board a s) c e ok is
  made on s (Clock c) e ok is = clock_laws.made on (clock_view board a s) c e ok is

  known : (on : Board) (s : Situation) (c : codec.Command) (e : Effect) → Succeeds
      (commands board a) on s c → now_of on c ≡ Some e → HasResource on (resource_changed e)
  known on s (Base c) e ok is = absurd (cc)
  known on s (Power c) e ok is = power_laws.known on (power_view board a s) c e ok is
  known on s (Clock c) e ok is = clock_laws.known on (clock_view board a s) c e ok is

  still : (on : Board) (s u : Situation) (c : codec.Command) (e : Effect)
      → Succeeds (commands board a) on s c → now_of on c ≡ Some e
      → channel_of board a ≡ channel_of board a
      → may board s.allowed (resource_changed e) ≡ may board u.allowed (resource_changed e)
      → (has_set_of (resource_changed e) s.pending ≡ false
      → has_set_of (resource_changed e) u.pending ≡ false)
      → reply_by on a (views board a s) c ≡ reply_by on a (views board a u) c
  still on s u (Base c) e ok is channel same busy = absurd (cc)
  still on s u (Power c) e ok is channel same busy =
      let x = state-now (set_now c) e is in
      power_laws.still on (power_view board a s) (power_view board a u) c (state_effect x.0) ok
      (is ∙ ap (λ f. Some f) (sym x.1)) channel
      (subst (λ f. may board s.allowed (resource_changed f)
      ≡ may board u.allowed (resource_changed f)) (sym x.1) same)
      (subst (λ f. has_set_of (resource_changed f) s.pending ≡ false
      → has_set_of (resource_changed f) u.pending ≡ false) (sym x.1) busy)
  still on s u (Clock c) e ok is channel same busy =
      let x = clock-now (rate_now on c) (enabled_now c) e is in
      clock_laws.still on (clock_view board a s) (clock_view board a u) c e ok is channel
      (clock-may-same s u (resource_changed e) x.0 x.1 same)
      (clock-busy-same s u (resource_changed e) x.0 x.1 busy)

  quiet : (on : Board) (c : codec.Command) → (commands board a).only_reads c ≡ true
      → (now_of on c ≡ None) × (later_effect_of on c ≡ None)
      × ((b d caller : ℕ) → request_of b d caller c ≡ None)
  quiet on (Base c) is = (refl, refl, λ b d caller. refl)
  quiet on (Power c) is =
      let none = power_laws.quiet on c is in
      (none.0, state-later (set_later c) ∙ none.1, none.2)
  quiet on (Clock c) is =
      let none = clock_laws.quiet on c is in
      (none.0, rate-later (rate_later on c) ∙ none.1, none.2)

  acts : (on : Board) (c : codec.Command) (b : ℕ) → now_of on c ≡ None → later_effect_of on c ≡ None
      → ((d : ℕ) → request_of b d b c ≡ None) → (commands board a).only_reads c ≡ true
  acts on (Base c) b now later none = refl
  acts on (Power c) b now later none =
      power_laws.acts on c b now (sym (state-later (set_later c)) ∙ later) none
  acts on (Clock c) b now later none =
      clock_laws.acts on c b now (sym (rate-later (rate_later on c)) ∙ later) none

  -- a change at once comes with no reset of an agent, and says nothing of what agents may do
  pub unreset : (on : Board) (c : codec.Command) (e : Effect) → now_of on c ≡ Some e
      → (reset_of c ≡ None) × ((x d : ℕ) (scope : Scope) → permission_in on x d scope c ≡ None)
  unreset on (Base c) e is = absurd (cc)
  unreset on (Power c) e is = (refl, λ x d scope. refl)
  unreset on (Clock c) e is = (refl, λ x d scope. refl)

  -- what grants nothing resets no agent and says nothing of what agents may do
  pub ungranted : (c : codec.Command) → grants_nothing c ≡ true
      → (reset_of c ≡ None) × ((x d : ℕ) (scope : Scope) → permission_in board x d scope c ≡ None)
  ungranted (Base base.Version) is = (refl, λ x d scope. refl)
  ungranted (Base base.Attributes) is = (refl, λ x d scope. refl)
  ungranted (Base (base.MessageAttributes message)) is = (refl, λ x d scope. refl)
  ungranted (Base base.Vendor) is = (refl, λ x d scope. refl)
  ungranted (Base base.SubVendor) is = (refl, λ x d scope. refl)
  ungranted (Base base.Implementation) is = (refl, λ x d scope. refl)
  ungranted (Base (base.Protocols skip)) is = (refl, λ x d scope. refl)
  ungranted (Base (base.Agent agent)) is = (refl, λ x d scope. refl)
  ungranted (Base (base.Permit agent device flags)) is = absurd (cc)
  ungranted (Base (base.PermitProtocol agent device protocol flags)) is = absurd (cc)
  ungranted (Base (base.ResetAgent agent flags)) is = absurd (cc)
  ungranted (Power c) is = (refl, λ x d scope. refl)
  ungranted (Clock c) is = (refl, λ x d scope. refl)

  same_scope : (s : Scope) → is_scope s s ≡ true
  same_scope scope.Device = refl
  same_scope scope.Power = refl
  same_scope scope.Clock = refl

  -- and what does neither grants nothing
  pub granting : (c : codec.Command) → reset_of c ≡ None → ((x d : ℕ) (scope : Scope)
      → permission_in board x d scope c ≡ None) → grants_nothing c ≡ true
  granting (Base base.Version) unreset unsaid = refl
  granting (Base base.Attributes) unreset unsaid = refl
  granting (Base (base.MessageAttributes message)) unreset unsaid = refl
  granting (Base base.Vendor) unreset unsaid = refl
  granting (Base base.SubVendor) unreset unsaid = refl
  granting (Base base.Implementation) unreset unsaid = refl
  granting (Base (base.Protocols skip)) unreset unsaid = refl
  granting (Base (base.Agent agent)) unreset unsaid = refl
  granting (Base (base.Permit agent device flags)) unreset unsaid =
      let says = unsaid agent device scope.Device in
      absurd (cc (says, eq-eqb agent agent refl, eq-eqb device device refl))
  granting (Base (base.PermitProtocol agent device protocol flags)) unreset unsaid =
      let named = protocol_named protocol in
      let says = unsaid agent device named in
      absurd (cc (says, eq-eqb agent agent refl, eq-eqb device device refl, same_scope named))
  granting (Base (base.ResetAgent agent flags)) unreset unsaid = absurd (cc)
  granting (Power c) unreset unsaid = refl
  granting (Clock c) unreset unsaid = refl

  -- only the trusted agent resets agents
  pub unreset-by : (s : Situation) (c : codec.Command) → begins_with_success
      (reply_by board a (views board a s) c) ≡ true → a ≢ board.trusted → reset_of c ≡ None
  unfolding base_reply
  unreset-by s (Base base.Version) ok other = refl
  unreset-by s (Base base.Attributes) ok other = refl
  unreset-by s (Base (base.MessageAttributes message)) ok other = refl
  unreset-by s (Base base.Vendor) ok other = refl
  unreset-by s (Base base.SubVendor) ok other = refl
  unreset-by s (Base base.Implementation) ok other = refl
  unreset-by s (Base (base.Protocols skip)) ok other = refl
  unreset-by s (Base (base.Agent agent)) ok other = refl
  unreset-by s (Base (base.Permit agent device flags)) ok other = refl
  unreset-by s (Base (base.PermitProtocol agent device protocol flags)) ok other = refl
  unreset-by s (Base (base.ResetAgent agent flags)) ok other =
      absurd (other (eqb-true a board.trusted (base_laws.reset-trusted (no_agent board agent)
      (other_bits flags) (a == board.trusted) ok)))
  unreset-by s (Power c) ok other = refl
  unreset-by s (Clock c) ok other = refl

  pub command_laws : IsProtocol (commands board a)
  command_laws = record {
    within = within;
    once = once;
    alone = alone;
    allowed = allowed;
    kept = kept;
    free = free;
    sent = sent;
    told = told;
    made = made;
    known = known;
    still = still;
    quiet = quiet;
    acts = acts;
  }

  -- who may do what is said by the trusted agent alone
  pub trusted : (s : Situation) (header : HeaderFields) (c : codec.Command)
      → begins_with_success (reply_by board a (views board a s) c) ≡ true
      → IsTrusted board (record { caller = a; header = header; command = c })
  trusted s header (Base c) ok = base_laws.trusted board a c ok
  trusted s header (Power c) ok = λ x d scope some. absurd (some refl)
  trusted s header (Clock c) ok = λ x d scope some. absurd (some refl)

-- views that say the same of what is on the board have one reply to each command
pub record SameViews (board : Board) (v w : Views) : Type 0 where
  pub power : power_same.SameView board v.power w.power
  pub clock : clock_same.SameView board v.clock w.clock

pub reply_by-same : (board : Board) (a : ℕ) (v w : Views) → SameViews board v w
    → (c : codec.Command) → reply_by board a v c ≡ reply_by board a w c
reply_by-same board a v w same (Base c) = refl
reply_by-same board a v w same (Power c) =
    power_same.power_reply-same board v.power w.power same.power c
reply_by-same board a v w same (Clock c) =
    clock_same.clock_reply-same board v.clock w.clock same.clock c
