-- How many lifelines code and definitions have room for.
use Rattle.std.proofs.Common.{◌≡◌, refl}
use Rattle.scmi_chart.specs.declared.laters.TheConstants.{LANES}

lanes : LANES ≡ 256
lanes = refl
