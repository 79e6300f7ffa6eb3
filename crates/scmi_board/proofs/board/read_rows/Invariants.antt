use Rattle.std.proofs.Common.{◌≡◌, length}
use Rattle.scmi_plan.specs.RawPlan.{asked_board}
use Rattle.scmi_board.specs.BoardText.{rows_of}
use Rattle.scmi_board.specs.Lines.{last_number, lines_left}
use Rattle.scmi_board.proofs.board.read_rows.Given as goal

abbrev pub invariant-loop-line : goal.invariant-loop-line
invariant-loop-line l = record {
  so_far : rows_of (last_number l.fn.lines) (asked_board l.board) (lines_left l.lines)
      ≡ rows_of (last_number l.fn.lines) (asked_board l.fn.board) (lines_left l.fn.lines);
  last : last_number l.lines ≡ last_number l.fn.lines;
}

abbrev pub decreases-loop-line : goal.decreases-loop-line
decreases-loop-line l = length l.lines.rest
