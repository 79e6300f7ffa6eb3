-- The exit status that the code shares with the definitions.
use Rattle.std.proofs.Common.{◌≡◌, refl}
use Rattle.scmi_io.specs.declared.fault_line.TheConstants.{FAILED_OUTPUT}

failed_output : FAILED_OUTPUT ≡ 1
failed_output = refl
