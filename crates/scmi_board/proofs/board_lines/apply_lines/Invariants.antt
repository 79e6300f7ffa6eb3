use Rattle.std.proofs.Common.{◌≡◌, take}
use Rattle.scmi_board.specs.BoardLines.{with_lines}
use Rattle.scmi_board.proofs.board_lines.apply_lines.Given as goal

abbrev pub invariant-lines : goal.invariant-lines
invariant-lines l = l.plan ≡ with_lines l.fn.plan (take l.line-index l.fn.lines)
