-- A clock, as contracts see it.
use Rattle.std.specs.Prelude.{ℕ, Bool, List}
use Rattle.scmi_plan.specs.Rates.{SupportedRates}

-- a clock's name, whether it is enabled at the start, its starting rate in Hz, and the rates that
-- it supports
pub record ClockView : Type 0 where
  pub name : List ℕ
  pub enabled : Bool
  pub rate : ℕ
  pub rates : SupportedRates
