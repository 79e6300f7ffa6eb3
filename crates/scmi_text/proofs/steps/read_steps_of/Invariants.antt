use Rattle.std.proofs.Common.{◌≡◌, length}
use Rattle.scmi_board.specs.Lines.{lines_left}
use Rattle.scmi_text.proofs.StepLemmas.{AreRead}
use Rattle.scmi_text.specs.StepList.{steps_in}
use Rattle.scmi_text.specs.StepText.{steps_left, with_step}
use Rattle.scmi_text.specs.TextLines.{after_lines}
use Rattle.scmi_text.proofs.steps.read_steps_of.Given as goal

abbrev pub invariant-loop-line : goal.invariant-loop-line
invariant-loop-line l = record {
  are : AreRead l.kinds l.agents l.read.items;
  so_far : after_lines (with_step l.kinds l.agents) (steps_in l.kinds l.agents l.read.items)
      (lines_left l.lines) ≡ steps_left l.kinds l.agents l.fn.lines;
}

abbrev pub decreases-loop-line : goal.decreases-loop-line
decreases-loop-line l = length l.lines.rest
