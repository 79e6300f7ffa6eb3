use Rattle.std.proofs.Common.{take}
use Rattle.std.specs.Io.KnownBytes.{Appends}
use Rattle.scmi_chart.specs.DiagramValue.{shown_text}
use Rattle.scmi_chart.proofs.diagram_value.write_shown.Given as goal

abbrev pub invariant-bytes : goal.invariant-bytes
invariant-bytes g l =
    Appends (g.W.Write.contents l.fn.writer) (g.W.Write.contents l.writer)
    (shown_text (take l.byte-index l.bytes))
