-- The rates below and above in a list, from the place that divides it.
use Rattle.std.proofs.Common.{◌≡◌, ℕ, ◌-◌, ◌<◌, ◌≤◌, nat_le, nat_lt, true, false, List, length, get_or, Option, Some, None, Bor, refl, sym, ◌∙◌, arith}
use Rattle.std.specs.List.Sorted.{IsPartitionPoint, IsNonDecreasingBy}
use Rattle.std.specs.Option.{option_copied}
use Rattle.std.specs.Slice.{IsItemAt}
use Rattle.std.proofs.lemmas.Bool.{le-leb, ltb-true, ltb-false}
use Rattle.std.proofs.lemmas.List.{get_or_default}
use Rattle.scmi_plan.specs.Rates as rates
use Rattle.scmi_plan.specs.Rates.{HasValidRates}
use Rattle.scmi_clock.specs.Rounding.{rate_below, rate_above}
use Rattle.scmi_clock.proofs.Passing.{no_last, no_first, last_is, first_is}
use Rattle.scmi_clock.proofs.Closest.{ladder}
use Rattle.scmi_clock.proofs.StepRates.{above_fails}

pub rising : (xs : List ℕ) → HasValidRates (rates.list xs) → IsNonDecreasingBy (λ x. x) xs
rising xs valid i j d upto within =
    let at_i = get_or_default xs i d 0 (omega arith) in
    let at_j = get_or_default xs j d 0 within in
    let up = (ladder (rates.list xs) valid).rises i j upto within in omega arith

module _ (xs : List ℕ) (asked count : ℕ) where
  pub below_start : IsPartitionPoint (λ y. nat_le y asked ≡ true)
      (λ y. nat_le y asked ≡ false) xs count → count ≡ 0 → None ≡ rate_below (rates.list xs) asked
  below_start point none =
      sym (no_last (λ r. nat_le r asked) xs (record { fails = λ k h. point.1 k 0 (omega arith) h }))

  pub below_inside : IsPartitionPoint (λ y. nat_le y asked ≡ true)
      (λ y. nat_le y asked ≡ false) xs count → 0 < count → count ≤ length xs
      → Some (get_or xs (count - 1) 0) ≡ rate_below (rates.list xs) asked
  below_inside point some few =
      sym (last_is (λ r. nat_le r asked) xs (get_or xs (count - 1) 0) (record {
        place = count - 1;
        within = omega arith;
        is = refl;
        passes = point.0 (count - 1) 0 (omega arith) (omega arith);
        after = λ k less h. point.1 k 0 (omega arith) h;
      }))

  pub above_item : IsPartitionPoint (λ y. nat_lt y asked ≡ true)
      (λ y. nat_lt y asked ≡ false) xs count
      → (r : Option (Bor ℕ)) → IsItemAt xs count r
      → option_copied r ≡ rate_above (rates.list xs) asked
  above_item point None item = sym (no_first (λ r. nat_le asked r) xs (record {
    fails = λ k h.
        let past : length xs ≤ count = item.3 in
        above_fails _ asked (ltb-true _ _ (point.0 k 0 (omega arith) (omega arith)));
  }))
  above_item point (Some x) item =
      let inside : count < length xs = item.3.0 in
      let same : get_or xs count x.now ≡ get_or xs count 0 =
      get_or_default xs count x.now 0 inside in
      let is : get_or xs count 0 ≡ x.now = sym same ∙ sym item.1 in
      sym (first_is (λ r. nat_le asked r) xs x.now (record {
        place = count;
        within = inside;
        is = is;
        passes = le-leb asked x.now
            (let h = ltb-false _ _ (point.1 count 0 (omega arith) inside) in omega arith);
        before = λ k less. above_fails _ asked (ltb-true _ _ (point.0 k 0 (omega arith) less));
      }))
