-- The rates that a clock supports.
use Rattle.std.specs.Prelude.{◌≡◌, ℕ, ◌+◌, ◌-◌, ◌*◌, ◌/◌, ◌%◌, ◌≤◌, List, length, map, Contains}
use Rattle.std.specs.List.{range_with_len}
use Rattle.std.specs.List.Sorted.{IsStrictlyIncreasing}
use Rattle.scmi_plan.specs.declared.limits.TheConstants.{RATES}
use Rattle.scmi_plan.specs.declared.rates.Rates.{Rates}
use Rattle.scmi_plan.specs.declared.rates.Rates.TheVariants as rates

-- the rates in Hz that a clock supports: those of a list, or low, low + step and so on up to high
pub data SupportedRates : Type 0 where
  list : List ℕ → SupportedRates
  steps : (low high step : ℕ) → SupportedRates

-- the rates that a value of the program has
abbrev pub rates_of : Rates → SupportedRates
rates_of (rates.List rates) = list rates.items
rates_of (rates.Steps low high step) = steps low high step

-- the supported rates in Hz, rising: those of a list, or every step from low to high
abbrev pub members : SupportedRates → List ℕ
members (list rates) = rates
members (steps low high step) =
    map (λ k. low + k * step) (range_with_len 0 ((high - low) / step + 1))

-- a list of 1 to 64 rates that rises, or steps that end at the highest rate (own)
abbrev pub HasValidRates : SupportedRates → Type 0
HasValidRates (list rates) = (1 ≤ length rates) × (length rates ≤ RATES)
    × IsStrictlyIncreasing rates
HasValidRates (steps low high step) = (1 ≤ step) × (low ≤ high) × ((high - low) % step ≡ 0)

-- a rate is supported
abbrev pub IsSupported : SupportedRates → ℕ → Type 0
IsSupported rates rate = Contains (members rates) rate
