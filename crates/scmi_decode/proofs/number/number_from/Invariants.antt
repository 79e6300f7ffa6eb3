use Rattle.std.proofs.Common.{◌≡◌, length}
use Rattle.scmi_decode.specs.Row.{number_from}
use Rattle.scmi_decode.proofs.number.number_from.Given as goal

abbrev pub invariant-digits : goal.invariant-digits
invariant-digits l = number_from l.base l.number l.rest ≡ number_from l.base l.before l.digits

abbrev pub decreases-digits : goal.decreases-digits
decreases-digits l = length l.rest
