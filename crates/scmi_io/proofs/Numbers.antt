-- The limit of an input that code and contracts share, as the profile has it.
use Rattle.std.proofs.Common.{◌≡◌, refl}
use Rattle.scmi_io.specs.declared.input.TheConstants.{INPUT_BYTES}

input_bytes : INPUT_BYTES ≡ 1048576
input_bytes = refl
