-- How long a script may wait, as the profile has it.
use Rattle.std.proofs.Common.{◌≡◌, refl}
use Rattle.scmi_threads.specs.declared.limits.TheConstants.{TURNS, CALLS}

turns : TURNS ≡ 1000000
turns = refl

calls : CALLS ≡ 100000
calls = refl
