use Rattle.std.proofs.Common.{◌+◌, ℕ, take, ap, arith}
use Rattle.scmi_c.specs.Tables.{agent_lines, lines_from}
use Rattle.scmi_c.proofs.TableLemmas.{row_said, rows_said}
use Rattle.scmi_c.proofs.table_lines.set_agents.Goals as goal

pub set_agent-requires-clause-agent : goal.set_agent-requires-clause-agent
set_agent-requires-clause-agent c =
    let alike = rows_said c.args.plan.now c.rows.plan
    (lines_from agent_lines 1 (take c.rows.row-index c.args.rows.now)) c.rows.invariant.said in (
      omega arith,
      omega (arith, c.rows-test.true, c.rows.invariant.count, alike.agents, c.requires.agents),
    )

pub set_agent-requires-clause-row : goal.set_agent-requires-clause-row
set_agent-requires-clause-row c =
    let alike = rows_said c.args.plan.now c.rows.plan
    (lines_from agent_lines 1 (take c.rows.row-index c.args.rows.now)) c.rows.invariant.said in
    rw alike.devices (c.requires.rows c.rows.row-index _ c.rows-test.true)

pub rows-preserved : goal.rows-preserved
rows-preserved c = record {
  said =
      row_said agent_lines 1 c.args.plan.now c.rows.plan c.set_agent.new.plan c.args.rows.now
      c.rows.row-index (c.rows.agent + 1) _ c.rows-test.true
      (omega (arith, c.rows.invariant.count)) c.rows.invariant.said c.set_agent.ensures.lines;
  count = ap (λ (n : ℕ). n + 1) c.rows.invariant.count;
  few = c.rows.invariant.few;
}
