use Rattle.std.proofs.Common.{◌≡◌, ◌+◌, ◌≤◌, length}
use Rattle.scmi_decode.specs.Scan.{gap_length}
use Rattle.scmi_decode.proofs.scan.gap_length.Given as goal

abbrev pub invariant-bytes : goal.invariant-bytes
invariant-bytes l = record {
  value : gap_length l.line + length l.rest ≡ length l.line + gap_length l.rest;
  bound : length l.rest ≤ length l.line;
}

abbrev pub decreases-bytes : goal.decreases-bytes
decreases-bytes l = length l.rest
