use Rattle.std.proofs.Common.{◌≡◌, ◌+◌, ◌≤◌, length}
use Rattle.scmi_decode.specs.Scan.{bar_length}
use Rattle.scmi_decode.proofs.scan.bar_length.Given as goal

abbrev pub invariant-bytes : goal.invariant-bytes
invariant-bytes l = record {
  value : bar_length l.line + length l.rest ≡ length l.line + bar_length l.rest;
  bound : length l.rest ≤ length l.line;
}

abbrev pub decreases-bytes : goal.decreases-bytes
decreases-bytes l = length l.rest
