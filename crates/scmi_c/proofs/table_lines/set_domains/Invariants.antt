use Rattle.std.proofs.Common.{◌≡◌, ◌≤◌, take, length}
use Rattle.scmi_board.specs.BoardLines.{with_lines}
use Rattle.scmi_c.specs.Tables.{domain_lines, lines_from}
use Rattle.scmi_c.proofs.table_lines.set_domains.Given as goal

abbrev pub invariant-rows : goal.invariant-rows
invariant-rows l = record {
  said : l.plan ≡ with_lines l.fn.plan (lines_from domain_lines 0 (take l.row-index l.fn.rows));
  count : l.domain ≡ l.row-index;
  few : length l.fn.plan.domains ≤ 32;
}
