use Rattle.std.proofs.Common.{◌≡◌, ◌≤◌, take, length}
use Rattle.scmi_board.specs.BoardLines.{with_lines}
use Rattle.scmi_c.specs.Tables.{clock_lines, lines_from}
use Rattle.scmi_c.proofs.table_lines.set_clocks.Given as goal

abbrev pub invariant-rows : goal.invariant-rows
invariant-rows l = record {
  said : l.plan ≡ with_lines l.fn.plan (lines_from clock_lines 0 (take l.row-index l.fn.rows));
  count : l.clock ≡ l.row-index;
  few : length l.fn.plan.clocks ≤ 32;
}
