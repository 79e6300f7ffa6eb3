use Rattle.std.proofs.Common.{take}
use Rattle.std.specs.Io.KnownBytes.{Appends}
use Rattle.scmi_chart.specs.Escape.{escaped_text}
use Rattle.scmi_chart.proofs.escape.write_escaped.Given as goal

abbrev pub invariant-bytes : goal.invariant-bytes
invariant-bytes g l =
    Appends (g.W.Write.contents l.fn.writer) (g.W.Write.contents l.writer)
    (escaped_text (take l.byte-index l.bytes))
