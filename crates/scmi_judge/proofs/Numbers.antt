-- The number of places of commands that are answered later, which code and definitions share.
use Rattle.std.proofs.Common.{◌≡◌, refl}
use Rattle.scmi_judge.specs.declared.outstanding.TheConstants.{OUTSTANDING}

outstanding : OUTSTANDING ≡ 8
outstanding = refl
