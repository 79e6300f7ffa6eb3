use Rattle.std.proofs.Common.{◌≡◌, length}
use Rattle.scmi_board.specs.Lines.{lines_left}
use Rattle.scmi_text.specs.ScriptText.{scripts_left, scripts_of, with_line}
use Rattle.scmi_text.specs.TextLines.{after_lines}
use Rattle.scmi_text.proofs.scripts.read_scripts.Given as goal

abbrev pub invariant-loop-line : goal.invariant-loop-line
invariant-loop-line l = record {
  agents : l.list.agents ≡ l.agents;
  so_far : after_lines (with_line l.agents) (scripts_of l.list.scripts.items) (lines_left l.lines)
      ≡ scripts_left l.agents l.fn.lines;
}

abbrev pub decreases-loop-line : goal.decreases-loop-line
decreases-loop-line l = length l.lines.rest
