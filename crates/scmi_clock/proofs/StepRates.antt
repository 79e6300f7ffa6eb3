-- The rates below and above among rates that rise by steps.
use Rattle.std.proofs.Common.{◌≡◌, ◌⊎◌, inl, inr, ℕ, suc, ◌+◌, ◌-◌, ◌*◌, ◌/◌, ◌%◌, ◌<◌, ◌≤◌, nat_le, true, false, length, get_or, Some, None, sym, ap, ◌∙◌, subst, arith}
use Rattle.std.proofs.Math.Nat.{mod-lt, mul-div_left, mul-le-mul_right}
use Rattle.std.proofs.lemmas.Bool.{le-leb}
use Rattle.std.proofs.lemmas.Bool.Decides.{leb_tells}
use Rattle.std.proofs.lemmas.Nat.{div-add-mod', le-div, div_below}
use Rattle.std.proofs.lemmas.List.FromFn.{length-map-range_with_len}
use Rattle.scmi_plan.specs.Rates as rates
use Rattle.scmi_plan.specs.Rates.{members, HasValidRates}
use Rattle.scmi_clock.specs.Rounding.{rate_below, rate_above}
use Rattle.scmi_clock.proofs.Passing.{no_last, no_first, last_is, first_is}
use Rattle.scmi_clock.proofs.Closest.{step_at}

pub above_fails : (asked x : ℕ) → asked < x → nat_le x asked ≡ false
above_fails asked x h = pick (leb_tells x asked) where
  pick : ((nat_le x asked ≡ true) × (x ≤ asked)) ⊎ ((nat_le x asked ≡ false) × (asked < x))
      → nat_le x asked ≡ false
  pick (inl t) = let small = t.1 in absurd (omega arith)
  pick (inr t) = t.0

module _ (low high step asked : ℕ) (valid : HasValidRates (rates.steps low high step)) where
  total : ℕ
  total = (high - low) / step

  at_end : low + total * step ≡ high
  unfolding total
  at_end = omega (arith, valid.0, valid.1, valid.2, div-add-mod' (high - low) step)

  count : length (members (rates.steps low high step)) ≡ total + 1
  unfolding total
  count = length-map-range_with_len (λ k. low + k * step) 0 ((high - low) / step + 1)

  at : (k : ℕ) → k < total + 1 → get_or (members (rates.steps low high step)) k 0 ≡ low + k * step
  unfolding total
  at k h = step_at low step ((high - low) / step + 1) k h

  top : (k : ℕ) → k < total + 1 → k * step ≤ total * step
  top k h = mul-le-mul_right step (omega arith)

  -- the greatest step at most the asked rate, where the next is above it or there is none
  below_at : (q : ℕ) → q < total + 1 → low + q * step ≤ asked
      → ((k : ℕ) → q < k → k < total + 1 → asked < low + k * step)
      → rate_below (rates.steps low high step) asked ≡ Some (low + q * step)
  below_at q within lo hi =
      last_is (λ r. nat_le r asked) (members (rates.steps low high step)) (low + q * step) (record {
        place = q;
        within = omega (arith, count);
        is = at q within;
        passes = le-leb (low + q * step) asked lo;
        after = λ k less inside. let wide : k < total + 1 = omega (arith, count) in
            above_fails asked _ (subst (λ x. asked < x) (sym (at k wide)) (hi k less wide));
      })

  above_at : (q : ℕ) → q < total + 1 → asked ≤ low + q * step
      → ((k : ℕ) → k < q → low + k * step < asked)
      → rate_above (rates.steps low high step) asked ≡ Some (low + q * step)
  above_at q within hi lo = first_is (λ r. nat_le asked r) (members (rates.steps low high step))
      (low + q * step) (record {
        place = q;
        within = omega (arith, count);
        is = at q within;
        passes = le-leb asked (low + q * step) hi;
        before = λ k less. above_fails _ asked
            (subst (λ x. x < asked) (sym (at k (omega arith))) (lo k less));
      })

  pub below_none : asked < low → None ≡ rate_below (rates.steps low high step) asked
  below_none h = sym (no_last (λ r. nat_le r asked) (members (rates.steps low high step)) (record {
    fails = λ k inside.
        let wide : k < total + 1 = omega (arith, count) in
        above_fails asked _ (subst (λ x. asked < x) (sym (at k wide)) (omega arith));
  }))

  pub above_none : high < asked → None ≡ rate_above (rates.steps low high step) asked
  above_none h = sym (no_first (λ r. nat_le asked r) (members (rates.steps low high step)) (record {
    fails = λ k inside.
        let wide : k < total + 1 = omega (arith, count) in
        above_fails _ asked
        (subst (λ x. x < asked) (sym (at k wide)) (omega (arith, top k wide, at_end)));
  }))

  pub below_high : high ≤ asked → Some high ≡ rate_below (rates.steps low high step) asked
  below_high h = sym (below_at total (omega arith) (omega (arith, at_end))
      (λ k less inside. absurd (omega arith)) ∙ ap Some at_end)

  pub above_low : asked ≤ low → Some low ≡ rate_above (rates.steps low high step) asked
  above_low h =
      let start : low + 0 * step ≡ low = omega arith in
      sym (above_at 0 (omega arith) (omega arith) (λ k less. absurd (omega arith)) ∙ ap Some start)

  past : ℕ
  past = (asked - low) / step

  near : asked - low ≡ past * step + (asked - low) % step
  unfolding past
  near = sym (div-add-mod' (asked - low) step)

  under : (asked - low) % step < step
  under = mod-lt (asked - low) valid.0

  reached : asked ≤ high → low ≤ asked → past < total + 1
  unfolding past total
  reached hi lo =
      let h = le-div ((asked - low) / step) (high - low) step valid.0
      (omega (arith, div-add-mod' (asked - low) step)) in
      omega arith

  -- a later step is one more step away at least
  onward : (q k : ℕ) → q < k → q * step + step ≤ k * step
  onward q k less =
      let up : suc q * step ≤ k * step = mul-le-mul_right step less in
      let one : suc q * step ≡ q * step + step = omega arith in
      omega arith

  pub below_between : low ≤ asked → asked < high
      → Some (asked - (asked - low) % step) ≡ rate_below (rates.steps low high step) asked
  below_between lo hi =
      let is : low + past * step ≡ asked - (asked - low) % step = omega (arith, near) in
      sym (below_at past (reached (omega arith) lo) (omega (arith, near))
      (λ k less inside. omega (arith, near, under, onward past k less)) ∙ ap Some is)

  pub above_exact : low < asked → asked ≤ high → (asked - low) % step ≡ 0
      → Some asked ≡ rate_above (rates.steps low high step) asked
  above_exact lo hi exact =
      let is : low + past * step ≡ asked = omega (arith, near) in
      sym (above_at past (reached hi (omega arith)) (omega (arith, near))
      (λ k less. omega (arith, near, valid.0, onward k past less)) ∙ ap Some is)

  less : past * step < total * step → past < total
  less h = subst (λ q. q < total) (mul-div_left past valid.0)
      (div_below (past * step) step total valid.0 h)

  pub above_next : low < asked → asked ≤ high → 0 < (asked - low) % step
      → Some (asked - (asked - low) % step + step) ≡ rate_above (rates.steps low high step) asked
  above_next lo hi between =
      let is : low + suc past * step ≡ asked - (asked - low) % step + step = omega (arith, near) in
      let room : past * step < total * step = omega (arith, near, at_end) in
      let small = less room in
      sym (above_at (suc past) (omega arith) (omega (arith, near, under))
      (λ k before. let upto : k * step ≤ past * step = mul-le-mul_right step (omega arith) in
      omega (arith, near)) ∙ ap Some is)
