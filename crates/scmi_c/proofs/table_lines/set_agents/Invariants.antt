use Rattle.std.proofs.Common.{◌≡◌, ◌≤◌, take, length}
use Rattle.scmi_board.specs.BoardLines.{with_lines}
use Rattle.scmi_c.specs.Tables.{agent_lines, lines_from}
use Rattle.scmi_c.proofs.table_lines.set_agents.Given as goal

abbrev pub invariant-rows : goal.invariant-rows
invariant-rows l = record {
  said : l.plan ≡ with_lines l.fn.plan (lines_from agent_lines 1 (take l.row-index l.fn.rows));
  count : l.agent ≡ l.row-index;
  few : length l.fn.plan.agents ≤ 8;
}
