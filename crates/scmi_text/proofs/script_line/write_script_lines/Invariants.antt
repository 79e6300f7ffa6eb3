use Rattle.std.proofs.Common.{take}
use Rattle.std.specs.Io.KnownBytes.{Appends}
use Rattle.scmi_text.specs.ScriptLine.{lines_text}
use Rattle.scmi_text.proofs.script_line.write_script_lines.Given as goal

abbrev pub invariant-lines : goal.invariant-lines
invariant-lines g l =
    Appends (g.W.Write.contents l.fn.writer) (g.W.Write.contents l.writer)
    (lines_text l.agent (take l.line-index l.lines))
