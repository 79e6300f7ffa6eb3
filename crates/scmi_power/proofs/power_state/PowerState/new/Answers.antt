use Rattle.std.proofs.Common.{◌≡◌, ◌≢◌, ℕ, ◌<◌, length, arith, ◌∙◌, ap, get_or-set_other, get_or-set_same, length-set, below_more}
use Rattle.std.proofs.Common.{replicate, false, ◌==◌, ◌-◌, zero, suc, refl, get_or}
use Rattle.std.specs.Int.{bit_at}
use Rattle.std.proofs.lemmas.Nat.Bits.{bit_at-zero}
use Rattle.scmi_plan.specs.declared.limits.TheConstants.{DOMAINS}
use Rattle.scmi_power.specs.PowerTable.{starting_state}
use Rattle.scmi_power.proofs.power_state.PowerState.new.Goals as goal

pub loop-domain-preserved : goal.loop-domain-preserved
loop-domain-preserved c =
    let law = c.domains-domain-end.ensures.valid in
    let small : c.loop-domain.domain < length c.loop-domain.states =
    let r = c.loop-domain.invariant.room in
    omega (arith, law.few_domains, c.domains-domain-end.ensures.count) in
    record {
      room = rw length-set c.loop-domain.invariant.room;
      started = below_more _ _
          (λ d h. let other : d ≢ c.loop-domain.domain = omega arith in
          rw get_or-set_other (c.loop-domain.invariant.started d h))
          (rw get_or-set_same
          (c.starting_state-state.ensures ∙ ap starting_state c.domain.ensures));
    }

-- a table of zeros has 0 at each place
all_zero : (n d : ℕ) → ◌≡◌ {A = ℕ} (get_or (replicate n 0) d 0) 0
all_zero zero d = refl
all_zero (suc n) zero = refl
all_zero (suc n) (suc d) = all_zero n d

pub returns-clause-subscribed : goal.returns-clause-subscribed
returns-clause-subscribed c = λ a d. none a d where
  none : (a d : ℕ) → (bit_at (get_or (replicate DOMAINS 0) d 0) (a - 1) == 1) ≡ false
  none a d = ap (λ n. bit_at n (a - 1) == 1) (all_zero DOMAINS d)
      ∙ ap (λ n. n == 1) (bit_at-zero (a - 1))
