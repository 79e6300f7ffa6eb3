use Rattle.std.proofs.Common.{◌≡◌}
use Rattle.scmi_decode.proofs.UnderWay.{IsUnderWay}
use Rattle.scmi_decode.proofs.decode.decode_lines.Given as goal

abbrev pub invariant-lines : goal.invariant-lines
invariant-lines g l = record {
  way : IsUnderWay l.fn.layout l.fn.input.left l.input.left l.dump l.number
      (g.S.Findings.taken l.fn.sink) (g.S.Findings.taken l.sink);
  stops : l.fn.input.since_failure ≡ 0 → l.input.since_failure ≡ 0;
}
