use Rattle.std.proofs.Common.{length}
use Rattle.scmi.proofs.report_unknown.report_unknown.Given as goal

abbrev pub decreases-loop-line : goal.decreases-loop-line
decreases-loop-line g l = length l.lines.rest
