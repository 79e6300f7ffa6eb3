use Rattle.std.proofs.Common.{rules, arith}
use Rattle.std.proofs.lemmas.Grind.{common_steps}
use Rattle.scmi_plan.specs.Board.{IsNameIf}
use Rattle.scmi_c.specs.Tables.{name_in}
use Rattle.scmi_c.specs.declared.rows.ClockRow.{ClockRow}
use Rattle.scmi_c.proofs.TableLemmas.{all_next}
use Rattle.scmi_c.proofs.tabled.add_clocks.Goals as goal

pub loop-row-preserved : goal.loop-row-preserved
loop-row-preserved c = record {
  made = grind (arith, common_steps);
  named = all_next (λ (row : ClockRow). IsNameIf c.args.loose (name_in row.name))
      c.args.rows.now c.loop-row.row-index _ c.loop-row-test.true c.loop-row.invariant.named
      c.in_ok-name_of.ensures.valid;
  count = search rules;
  room = search rules;
}
