-- Worked examples of rounding: steps of 500 Hz from 1,000 to 4,000, and the widest step there is.
use Rattle.std.proofs.Common.{◌≡◌, Some, None, refl}
use Rattle.scmi_plan.specs.Rates.{SupportedRates}
use Rattle.scmi_plan.specs.Rates as rates
use Rattle.scmi_clock.specs.Rounding.{round_to}
use Rattle.scmi_clock.specs.declared.rounding.Rounding.TheVariants as rounding

abbrev even_steps : SupportedRates
even_steps = rates.steps 1000 4000 500

abbrev widest_step : SupportedRates
widest_step = rates.steps 0 18446744073709551615 18446744073709551615

even_steps-tie : round_to rounding.Nearest even_steps 1250 ≡ Some 1000
even_steps-tie = refl

even_steps-past_tie : round_to rounding.Nearest even_steps 1251 ≡ Some 1500
even_steps-past_tie = refl

even_steps-down_past_lowest : round_to rounding.Down even_steps 999 ≡ None
even_steps-down_past_lowest = refl

even_steps-down_from_above : round_to rounding.Down even_steps 5000 ≡ Some 4000
even_steps-down_from_above = refl

even_steps-up_past_highest : round_to rounding.Up even_steps 4001 ≡ None
even_steps-up_past_highest = refl

even_steps-up_from_nothing : round_to rounding.Up even_steps 0 ≡ Some 1000
even_steps-up_from_nothing = refl

even_steps-nearest_to_nothing : round_to rounding.Nearest even_steps 0 ≡ Some 1000
even_steps-nearest_to_nothing = refl

even_steps-nearest_to_most : round_to rounding.Nearest even_steps 18446744073709551615 ≡ Some 4000
even_steps-nearest_to_most = refl

widest_step-lower_half : round_to rounding.Nearest widest_step 9223372036854775807 ≡ Some 0
widest_step-lower_half = refl

widest_step-upper_half : round_to rounding.Nearest widest_step 9223372036854775808
    ≡ Some 18446744073709551615
widest_step-upper_half = refl

widest_step-down : round_to rounding.Down widest_step 18446744073709551614 ≡ Some 0
widest_step-down = refl
