use Rattle.std.proofs.Common.{◌≡◌, true, length}
use Rattle.scmi_decode.specs.Row.{from_address}
use Rattle.scmi_decode.proofs.prefix.from_address.Given as goal

abbrev pub invariant-bytes : goal.invariant-bytes
invariant-bytes l = from_address l.may_begin l.rest ≡ from_address true l.line

abbrev pub decreases-bytes : goal.decreases-bytes
decreases-bytes l = length l.rest
