-- Rounding to a supported rate (DEN0056B, clock management protocol), in Hz.
use Rattle.std.specs.Prelude.{◌≡◌, ℕ, ◌-◌, ◌<◌, ◌≤◌, nat_le, if◌then◌else◌, Option, Some, None}
use Rattle.std.specs.List.{filter, find, last_or}
use Rattle.std.specs.Int.{abs_diff}
use Rattle.scmi_plan.specs.Rates.{SupportedRates, members, IsSupported}
use Rattle.scmi_clock.specs.declared.rounding.Rounding.{Rounding}
use Rattle.scmi_clock.specs.declared.rounding.Rounding.TheVariants as rounding

-- rounded down: a supported rate at most the asked one, with none between the two
pub record IsRoundedDown (rates : SupportedRates) (asked rate : ℕ) : Type 0 where
  pub supported : IsSupported rates rate
  pub at_most : rate ≤ asked
  pub none_between : (r : ℕ) → IsSupported rates r → r ≤ asked → r ≤ rate

-- rounded up: a supported rate at least the asked one, with none between the two
pub record IsRoundedUp (rates : SupportedRates) (asked rate : ℕ) : Type 0 where
  pub supported : IsSupported rates rate
  pub at_least : asked ≤ rate
  pub none_between : (r : ℕ) → IsSupported rates r → asked ≤ r → rate ≤ r

-- nearest: a supported rate such that none is closer to the asked one, and none that is as close is
-- lower (own)
pub record IsNearest (rates : SupportedRates) (asked rate : ℕ) : Type 0 where
  pub supported : IsSupported rates rate
  pub closest : (r : ℕ) → IsSupported rates r → abs_diff asked rate ≤ abs_diff asked r
  pub lower_of_two : (r : ℕ) → IsSupported rates r
      → abs_diff asked r ≡ abs_diff asked rate → rate ≤ r

-- the rate that a rounding gives
abbrev pub IsRounded : Rounding → SupportedRates → ℕ → ℕ → Type 0
IsRounded rounding.Down rates asked rate = IsRoundedDown rates asked rate
IsRounded rounding.Up rates asked rate = IsRoundedUp rates asked rate
IsRounded rounding.Nearest rates asked rate = IsNearest rates asked rate

-- there is no such rate: all are above the asked one, or all below; a nearest one there always is
abbrev pub HasNoRate : Rounding → SupportedRates → ℕ → Type 0
HasNoRate rounding.Down rates asked = (r : ℕ) → IsSupported rates r → asked < r
HasNoRate rounding.Up rates asked = (r : ℕ) → IsSupported rates r → r < asked
HasNoRate rounding.Nearest rates asked = ⊥

-- the last of the rising rates that is at most the asked one
abbrev pub rate_below : SupportedRates → ℕ → Option ℕ
rate_below rates asked = last_or None (filter (λ r. nat_le r asked) (members rates))

-- the first of the rising rates that is at least the asked one
abbrev pub rate_above : SupportedRates → ℕ → Option ℕ
rate_above rates asked = find (λ r. nat_le asked r) (members rates)

-- the nearer of the rates below and above, the lower on a tie
abbrev pub nearer : ℕ → Option ℕ → Option ℕ → Option ℕ
nearer asked None above = above
nearer asked (Some below) None = Some below
nearer asked (Some below) (Some above) = if nat_le (asked - below) (above - asked) then Some below
    else Some above

-- the nearest rate, by the rates below and above
abbrev pub rate_nearest : SupportedRates → ℕ → Option ℕ
rate_nearest rates asked = nearer asked (rate_below rates asked) (rate_above rates asked)

-- the rate that a rounding gives, computed
abbrev pub round_to : Rounding → SupportedRates → ℕ → Option ℕ
round_to rounding.Down rates asked = rate_below rates asked
round_to rounding.Up rates asked = rate_above rates asked
round_to rounding.Nearest rates asked = rate_nearest rates asked
