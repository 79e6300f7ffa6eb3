use Rattle.std.proofs.Common.{◌+◌, ℕ, take, ap, arith}
use Rattle.scmi_c.specs.Tables.{clock_lines, lines_from}
use Rattle.scmi_c.proofs.TableLemmas.{row_said, rows_said}
use Rattle.scmi_c.proofs.table_lines.set_clocks.Goals as goal

pub set_clock-requires : goal.set_clock-requires
set_clock-requires c =
    let alike = rows_said c.args.plan.now c.rows.plan
    (lines_from clock_lines 0 (take c.rows.row-index c.args.rows.now)) c.rows.invariant.said in
    omega (arith, c.rows-test.true, c.rows.invariant.count, alike.clocks, c.requires.clocks)

pub rows-preserved : goal.rows-preserved
rows-preserved c = record {
  said =
      row_said clock_lines 0 c.args.plan.now c.rows.plan c.set_clock.new.plan c.args.rows.now
      c.rows.row-index c.rows.clock _ c.rows-test.true
      (omega (arith, c.rows.invariant.count)) c.rows.invariant.said c.set_clock.ensures;
  count = ap (λ (n : ℕ). n + 1) c.rows.invariant.count;
  few = c.rows.invariant.few;
}
