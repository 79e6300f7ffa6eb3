use Rattle.std.proofs.Common.{take}
use Rattle.std.specs.Io.KnownBytes.{Appends}
use Rattle.scmi_chart.specs.Diagram.{marks_text}
use Rattle.scmi_chart.proofs.diagram.write_marks.Given as goal

abbrev pub invariant-marks : goal.invariant-marks
invariant-marks g l =
    Appends (g.W.Write.contents l.fn.writer) (g.W.Write.contents l.writer)
    (marks_text (take l.mark-index l.marks))
