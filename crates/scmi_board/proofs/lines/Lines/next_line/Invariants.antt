use Rattle.std.proofs.Common.{◌≤◌, ◌≡◌, length}
use Rattle.scmi_board.specs.Lines.{last_number, lines_left}
use Rattle.scmi_board.proofs.lines.Lines.next_line.Given as goal

abbrev pub invariant-loop-text : goal.invariant-loop-text
invariant-loop-text l = record {
  smaller : length l.self.rest ≤ length l.fn.self.rest;
  lines : lines_left l.self ≡ lines_left l.fn.self;
  last : last_number l.self ≡ last_number l.fn.self;
}

abbrev pub decreases-loop-text : goal.decreases-loop-text
decreases-loop-text l = length l.self.rest
