-- Rates, which the prover works out by the definition.
use Rattle.std.proofs.Common.{◌≡◌, codes, refl}
use Rattle.std.specs.Fmt.{digits}
use Rattle.scmi_chart.specs.Rate.{rate_text, scaled_text}

-- a rate with a fraction
kilohertz : rate_text 32768 ≡ codes "32.768 kHz"
unfolding scaled_text digits
kilohertz = refl

-- a rate without one
megahertz : rate_text 48000000 ≡ codes "48 MHz"
unfolding scaled_text digits
megahertz = refl

-- a rate that no larger unit has with three digits
hertz : rate_text 1000001 ≡ codes "1000001 Hz"
unfolding digits
hertz = refl
