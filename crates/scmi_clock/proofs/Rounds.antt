-- What `round` answers, in the words of its contract.
use Rattle.std.proofs.Common.{◌≡◌, ◌⊎◌, inl, inr, ◌↔◌, IfSome, IsNone, ℕ, ◌≤◌, Option, Some, None, refl, sym, subst, arith}
use Rattle.scmi_plan.specs.Rates.{SupportedRates, HasValidRates}
use Rattle.scmi_clock.specs.declared.rounding.Rounding.{Rounding}
use Rattle.scmi_clock.specs.declared.rounding.Rounding.TheVariants as rounding
use Rattle.scmi_clock.specs.Rounding.{IsRoundedDown, IsRoundedUp, IsRounded, HasNoRate, rate_below, rate_above, round_to}
use Rattle.scmi_clock.proofs.Closest.{below_cases, above_cases, nearest_cases}

-- the rate that is answered, or why there is none
abbrev pub Answer : Rounding → SupportedRates → ℕ → Option ℕ → Type 0
Answer way r asked o = ((o ≡ None) × HasNoRate way r asked)
    ⊎ ((m : ℕ) × (o ≡ Some m) × IsRounded way r asked m)

answer : (way : Rounding) (r : SupportedRates) (asked : ℕ) → HasValidRates r
    → Answer way r asked (round_to way r asked)
answer rounding.Down r asked valid = below_cases r valid asked
answer rounding.Up r asked valid = above_cases r valid asked
answer rounding.Nearest r asked valid =
    inr (nearest_cases r valid asked (round_to rounding.Nearest r asked) refl)

pub rounded_is : (way : Rounding) (r : SupportedRates) (asked : ℕ) (o : Option ℕ) → HasValidRates r
    → o ≡ round_to way r asked → IfSome o (λ rate. IsRounded way r asked rate)
rounded_is way r asked o valid is = subst (λ o. IfSome o (λ rate. IsRounded way r asked rate))
    (sym is) (pick (answer way r asked valid)) where
      pick : Answer way r asked (round_to way r asked)
          → IfSome (round_to way r asked) (λ rate. IsRounded way r asked rate)
      pick (inl t) = subst (λ o. IfSome o (λ rate. IsRounded way r asked rate)) (sym t.0) tt
      pick (inr t) = subst (λ o. IfSome o (λ rate. IsRounded way r asked rate)) (sym t.1) t.2

clash : (way : Rounding) (r : SupportedRates) (asked m : ℕ) → IsRounded way r asked m
    → HasNoRate way r asked → ⊥
clash rounding.Down r asked m is none = let high = none m is.supported in omega (arith, is.at_most)
clash rounding.Up r asked m is none = let low = none m is.supported in omega (arith, is.at_least)
clash rounding.Nearest r asked m is none = none

pub rounded_none : (way : Rounding) (r : SupportedRates) (asked : ℕ) (o : Option ℕ)
    → HasValidRates r → o ≡ round_to way r asked → IsNone o ↔ HasNoRate way r asked
rounded_none way r asked o valid is =
    subst (λ o. IsNone o ↔ HasNoRate way r asked) (sym is) (pick (answer way r asked valid)) where
      pick : Answer way r asked (round_to way r asked)
          → IsNone (round_to way r asked) ↔ HasNoRate way r asked
      pick (inl t) = subst (λ o. IsNone o ↔ HasNoRate way r asked) (sym t.0) (λ h. t.1, λ h. refl)
      pick (inr t) = subst (λ o. IsNone o ↔ HasNoRate way r asked) (sym t.1)
          (λ h. absurd (cc), λ h. absurd (clash way r asked t.0 t.2 h))

pub below_low : (r : SupportedRates) (asked m : ℕ) → HasValidRates r
    → Some m ≡ rate_below r asked → m ≤ asked
below_low r asked m valid is =
    let down : IsRoundedDown r asked m = rounded_is rounding.Down r asked (Some m) valid is in
    down.at_most

pub above_high : (r : SupportedRates) (asked m : ℕ) → HasValidRates r
    → Some m ≡ rate_above r asked → asked ≤ m
above_high r asked m valid is =
    let up : IsRoundedUp r asked m = rounded_is rounding.Up r asked (Some m) valid is in
    up.at_least
