use Rattle.std.proofs.Common.{◌≡◌, length}
use Rattle.scmi_check.specs.TraceLine.{behind_all_digits}
use Rattle.scmi_check.proofs.trace_line.behind_all_digits.Given as goal

abbrev pub invariant-digits : goal.invariant-digits
invariant-digits l = behind_all_digits l.rest ≡ behind_all_digits l.text

abbrev pub decreases-digits : goal.decreases-digits
decreases-digits l = length l.rest
