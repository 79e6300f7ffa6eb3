use Rattle.std.proofs.Common.{◌≡◌, length}
use Rattle.scmi_board.specs.BoardLines.{last_agent}
use Rattle.scmi_board.proofs.board_with_lines.last_agent.Given as goal

abbrev pub invariant-loop-line : goal.invariant-loop-line
invariant-loop-line l = last_agent l.before ≡ last_agent l.fn.lines

abbrev pub decreases-loop-line : goal.decreases-loop-line
decreases-loop-line l = length l.before
