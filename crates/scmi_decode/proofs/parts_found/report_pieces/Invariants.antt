use Rattle.std.proofs.Common.{◌≤◌, length}
use Rattle.scmi_decode.proofs.Reporting.{AreReported}
use Rattle.scmi_decode.proofs.parts_found.report_pieces.Given as goal

abbrev pub invariant-parts : goal.invariant-parts
invariant-parts g l = record {
  within : length l.rest ≤ length l.bytes;
  reported : AreReported l.pieces l.line l.bytes l.rest (g.S.Findings.taken l.fn.sink)
      (g.S.Findings.taken l.sink) l.has_area;
}

abbrev pub decreases-parts : goal.decreases-parts
decreases-parts g l = length l.rest
