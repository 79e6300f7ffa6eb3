use Rattle.std.proofs.Common.{◌≡◌, length}
use Rattle.scmi_board.specs.BoardText.{lines_by}
use Rattle.scmi_board.specs.BoardLines.{described, with_line}
use Rattle.scmi_board.specs.Lines.{last_number, lines_left}
use Rattle.scmi_board.proofs.board_with_lines.read_lines.Given as goal

abbrev pub invariant-loop-line : goal.invariant-loop-line
invariant-loop-line l = record {
  so_far : lines_by with_line (last_number l.fn.lines) (described l.board) (lines_left l.lines)
      ≡ lines_by with_line (last_number l.fn.lines) (described l.fn.board) (lines_left l.fn.lines);
  last : last_number l.lines ≡ last_number l.fn.lines;
}

abbrev pub decreases-loop-line : goal.decreases-loop-line
decreases-loop-line l = length l.lines.rest
