use Rattle.std.proofs.Common.{length}
use Rattle.scmi_chart.proofs.run.behind_board.Given as goal

abbrev pub decreases-loop-line : goal.decreases-loop-line
decreases-loop-line l = length l.lines.rest
