use Rattle.std.proofs.Common.{◌≡◌, length}
use Rattle.scmi_decode.specs.Scan.{behind_colon}
use Rattle.scmi_decode.proofs.scan.behind_colon.Given as goal

abbrev pub invariant-bytes : goal.invariant-bytes
invariant-bytes l = behind_colon l.best l.rest ≡ behind_colon l.text l.text

abbrev pub decreases-bytes : goal.decreases-bytes
decreases-bytes l = length l.rest
