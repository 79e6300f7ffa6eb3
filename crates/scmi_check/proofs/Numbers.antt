-- The numbers that the code shares with the definitions, as the pages have them.
use Rattle.std.proofs.Common.{◌≡◌, [], ◌∷◌, refl}
use Rattle.scmi_check.specs.declared.checked.TheConstants.{DIFFERS, UNSURE}
use Rattle.scmi_check.specs.declared.run.TheConstants.{PROTOCOLS}

differs : DIFFERS ≡ 5
differs = refl

unsure : UNSURE ≡ 6
unsure = refl

protocols : PROTOCOLS ≡ 0x10 ∷ 0x11 ∷ 0x14 ∷ []
protocols = refl
