use Rattle.std.proofs.Common.{take}
use Rattle.std.specs.Io.KnownBytes.{Appends}
use Rattle.scmi_chart.specs.Diagram.{agents_text}
use Rattle.scmi_chart.proofs.diagram.write_agents.Given as goal

abbrev pub invariant-agents : goal.invariant-agents
invariant-agents g l =
    Appends (g.W.Write.contents l.fn.writer) (g.W.Write.contents l.writer)
    (agents_text (take l.lifeline-index l.lifelines))
