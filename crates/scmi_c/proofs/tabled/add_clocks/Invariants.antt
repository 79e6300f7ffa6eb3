use Rattle.std.proofs.Common.{◌≡◌, ◌<◌, ◌≤◌, ℕ, length, map, take, get_or, vec_len, vec_capacity}
use Rattle.scmi_plan.specs.Board.{IsNameIf}
use Rattle.scmi_c.specs.Tables.{clock_in, name_in}
use Rattle.scmi_c.specs.declared.rows.ClockRow.{ClockRow}
use Rattle.scmi_c.proofs.tabled.add_clocks.Given as goal

abbrev pub invariant-loop-row : goal.invariant-loop-row
invariant-loop-row l = record {
  made : l.clocks.items ≡ map (clock_in l.rates) (take l.row-index l.rows);
  named : (k : ℕ) (d : ClockRow) → k < l.row-index
      → IsNameIf l.loose (name_in (get_or l.rows k d).name);
  count : vec_len l.clocks ≡ l.row-index;
  room : length l.rows ≤ vec_capacity l.clocks;
}
