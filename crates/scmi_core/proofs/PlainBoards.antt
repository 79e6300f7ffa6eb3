-- A board that keeps nothing, denies nothing, shares nothing out and is not loose gives what it
-- gives if no board says such things.
use Rattle.std.proofs.Common.{◌≡◌, ◌⊎◌, inl, inr, ℕ, suc, ◌+◌, ◌-◌, ◌<◌, ◌==◌, ◌&&◌, ◌||◌, ◌≤◌, nat_le, nat_lt, Bool, true, false, not, if◌then◌else◌, List, [], ◌∷◌, length, Some, None, Err, refl, sym, ap, subst, ◌∙◌, arith}
use Rattle.std.specs.Int.{bit_at}
use Rattle.std.specs.List.{filter, list_all, list_any}
use Rattle.std.proofs.lemmas.Bool.Decides.{Decides-eqb, Decides-like, leb_tells, nat_tests, same_from_decides}
use Rattle.std.proofs.lemmas.List.Elements.{All-from_get_or}
use Rattle.std.proofs.lemmas.List.Filters.{length-filter_both}
use Rattle.std.proofs.lemmas.Nat.Bits.{bit_at-zero}
use Rattle.scmi_codec.specs.Command.{command_of}
use Rattle.scmi_codec.specs.declared.message.Message.{Message}
use Rattle.scmi_codec.specs.declared.status.Status.TheVariants.{NotSupported}
use Rattle.scmi_codec.specs.Name.{IsName}
use Rattle.scmi_codec.specs.Reply.{bit_0, reply_unless}
use Rattle.scmi_plan.specs.Board.{Board, IsNameIf, clock_at, holds, nothing_denied, own_protocols}
use Rattle.scmi_plan.specs.PlanError.{is_loose_name, is_name, is_valid, supports}
use Rattle.scmi_plan.specs.declared.clock.Clock.{Clock}
use Rattle.scmi_plan.specs.declared.domain.Domain.{Domain}
use Rattle.scmi_plan.specs.declared.resource.Resource.TheVariants as resource
use Rattle.scmi_plan.specs.declared.scope.Scope.{Scope}
use Rattle.scmi_plan.specs.declared.scope.Scope.TheVariants as scope
use Rattle.scmi_base.proofs.Masks.{no_bits}
use Rattle.scmi_base.specs.BaseReply.{base_reply, protocols_reply}
use Rattle.scmi_base.specs.Permission.{is_allowed}
use Rattle.scmi_power.specs.PowerReply.{PowerView, may_set, power_reply, set_reply, state_off}
use Rattle.scmi_clock.specs.ClockReply.{ClockView, clock_reply, config_checks, rate_if, rounded_rate}
use Rattle.scmi_core.specs.Deed.{fold_with_prefix}
use Rattle.scmi_core.specs.Pending.{sets_by}
use Rattle.scmi_core.specs.PlainBoards.{AllowsAll, ConfiguresByPermission, FindsClocks, FindsDomains, ListsOwn, Names, ReadsAll, Refuses, ResetsToAll, Rounds, SetsByPermission, SharesAll, Starts}
use Rattle.scmi_core.specs.ReadCommand.{lacks_protocol}
use Rattle.scmi_core.specs.declared.pending_set.PendingSet.{PendingSet}

-- where nothing is denied each agent is allowed everything
allowed-all : (a d : ℕ) (s : Scope) → is_allowed nothing_denied a d s ≡ true
allowed-all a d scope.Device = no_bits 8 (a - 1) d
allowed-all a d scope.Power = no_bits 8 (a - 1) d
allowed-all a d scope.Clock = no_bits 8 (a - 1) d

pub allows : (board : Board) (a d : ℕ) (s : Scope) → AllowsAll board a d s
unfolding fold_with_prefix
allows board a d s = λ none. ap (λ denied. is_allowed denied a d s) none ∙ allowed-all a d s

pub resets : (board : Board) (a d : ℕ) (s : Scope) (agent flags : ℕ)
    → ResetsToAll board a d s agent flags
resets board a d s agent flags = λ none.
    ap (λ b. if agent == a && bit_0 flags then Some b else None)
    (ap (λ denied. is_allowed denied a d s) none ∙ allowed-all a d s)

-- what is said of no domain and of no clock forbids nothing
alone : (may : Bool) (bit : ℕ → Bool) (other : Bool) → bit 0 ≡ false
    → (may && not (bit 0 && other)) ≡ may
alone may bit other none = ap (λ b. may && not (b && other)) none ∙ kept may where
  kept : (b : Bool) → (b && true) ≡ b
  kept true = refl
  kept false = refl

no_bit : (d : ℕ) → (bit_at 0 d == 1) ≡ false
no_bit d = ap (λ b. b == 1) (bit_at-zero d)

pub sets : (board : Board) (v : PowerView) (flags d state : ℕ)
    → SetsByPermission board v flags d state
unfolding power_reply may_set
sets board v flags d state = λ none.
    ap (λ may. set_reply board v.channel may (v.busy d) v.room flags d state)
    (ap (λ kept. v.may d && not (holds kept (resource.Domain d) && (state == state_off))) none
    ∙ alone (v.may d) (λ mask. bit_at mask d == 1) (state == state_off) (no_bit d))

pub configures : (board : Board) (v : ClockView) (c attributes : ℕ)
    → ConfiguresByPermission board v c attributes
unfolding clock_reply
configures board v c attributes = λ none.
    ap (λ may. reply_unless (config_checks board may c attributes) (0 ∷ []))
    (ap (λ kept. v.may c && not (holds kept (resource.Clock c) && not (bit_0 attributes))) none
    ∙ alone (v.may c) (λ mask. bit_at mask c == 1) (not (bit_0 attributes)) (no_bit c))

-- what is absent from nothing adds nothing
there : (lacks : Bool) (bit : Bool) → bit ≡ false → (lacks || bit) ≡ lacks
there true bit none = refl
there false bit none = none

pub finds_domains : (board : Board) (d : ℕ) → FindsDomains board d
finds_domains board d = λ none. there (nat_le (length board.domains) d) _
    (ap (λ absent. holds absent (resource.Domain d)) none ∙ no_bit d)

pub finds_clocks : (board : Board) (c : ℕ) → FindsClocks board c
finds_clocks board c = λ none. there (nat_le (length board.clocks) c) _
    (ap (λ absent. holds absent (resource.Clock c)) none ∙ no_bit c)

pub rounds : (board : Board) (c flags asked : ℕ) → Rounds board c flags asked
rounds board c flags asked = λ none.
    ap (λ free. rate_if free asked (rounded_rate (clock_at board c).rates flags asked))
    (ap (λ mask. bit_at mask c == 1) none ∙ no_bit c)

-- of fewer than 8 sets an agent has fewer than 8
pub shares : (waiting a : ℕ) (sets : List PendingSet) → SharesAll waiting a sets
shares waiting a sets = by (leb_tells (suc (length sets)) 8) where
  own : length (sets_by a sets) + length (filter (λ p. not (p.agent == a)) sets) ≡ length sets
  own = length-filter_both (λ p. p.agent == a) (λ p. not (p.agent == a)) (λ p. refl) sets

  by : ((nat_lt (length sets) 8 ≡ true) × (suc (length sets) ≤ 8))
      ⊎ ((nat_lt (length sets) 8 ≡ false) × (8 < suc (length sets))) → SharesAll waiting a sets
  by (inl few) =
      let less = few.1 in
      let all = own in
      let fewer : length (sets_by a sets) < 8 = omega arith in
      let yes : nat_lt (length (sets_by a sets)) 8 ≡ true = grind (arith, nat_tests) in
      rw (few.0, yes) refl
  by (inr many) = rw many.0 refl

same-either_way : (a b : ℕ) → (a == b) ≡ (b == a)
same-either_way a b =
    same_from_decides (a == b) (b == a) (Decides-eqb a b)
    (Decides-like (b == a) sym sym (Decides-eqb b a))

-- what is listed is not lacking
none_lacks : (a b c : Bool) → (a && (b || c) && not (b || (c || false))) ≡ false
none_lacks false b c = refl
none_lacks true true c = refl
none_lacks true false true = refl
none_lacks true false false = refl

own_serves : (id : ℕ)
    → list_any (λ one. one == id) own_protocols ≡ (id == 0x11 || (id == 0x14 || false))
own_serves id = rw (same-either_way 0x11 id, same-either_way 0x14 id) refl

pub reads : (board : Board) (m : Message) → ReadsAll board m
reads board m = λ own. ap (λ (missing : Bool). if missing then Err NotSupported else command_of m)
    (lacks own) where
      wanted : Bool → Bool
      wanted listed =
          m.header.kind == 0 && (m.header.protocol == 0x11 || m.header.protocol == 0x14)
          && not listed

      lacks : board.protocols ≡ own_protocols → lacks_protocol board m.header ≡ false
      lacks own =
          ap (λ (ids : List ℕ). wanted (list_any (λ (one : ℕ). one == m.header.protocol) ids)) own
          ∙ ap wanted (own_serves m.header.protocol)
          ∙ none_lacks (m.header.kind == 0) (m.header.protocol == 0x11) (m.header.protocol == 0x14)

pub lists : (board : Board) (caller skip : ℕ) → ListsOwn board caller skip
unfolding base_reply
lists board caller skip = λ own. ap (λ (ids : List ℕ). protocols_reply ids skip) own

-- a name that a board may have is one if the board is not loose
pub names : (board : Board) → Names board
names board = λ strict valid.
    let one : (name : List ℕ) → IsNameIf board.loose name
    → IsName name = λ name is. subst (λ (loose : Bool). IsNameIf loose name) strict is in
    record {
      vendor = one board.vendor valid.vendor;
      sub_vendor = one board.sub_vendor valid.sub_vendor;
      agents = λ k d small. one _ (valid.agent_names k d small);
      domains = All-from_get_or (λ (domain : Domain). IsName domain.name) board.domains _
          (λ d small. one _ (valid.domain_names d small));
      clocks = All-from_get_or (λ (clock : Clock). IsName clock.name) board.clocks _
          (λ c small. one _ (valid.clock_names c small));
    }

pub starts : (board : Board) (c : ℕ) → Starts board c
starts board c = λ strict valid small. valid.supported c small strict

pub refuses : (board : Board) → Refuses board
refuses board = λ strict. (
  ap
      (λ (loose : Bool).
      let is : List ℕ → Bool = λ name. if loose then is_loose_name name else is_name name in
      is board.vendor && is board.sub_vendor && list_all is board.agents
      && list_all (λ domain. is domain.name) board.domains
      && list_all (λ clock. is clock.name) board.clocks)
      strict,
  ap (λ (loose : Bool). list_all (λ (clock : Clock). is_valid clock.rates
      && (loose || supports clock.rates clock.rate)) board.clocks) strict,
)
