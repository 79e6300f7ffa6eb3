use Rattle.std.proofs.Common.{◌≡◌, ◌+◌, ◌≤◌, ◌++◌, length}
use Rattle.scmi_plan.specs.declared.limits.TheConstants.{AGENTS}
use Rattle.scmi_chart.specs.History.{closes_from}
use Rattle.scmi_chart.proofs.history.add_closes.Given as goal

abbrev pub invariant-logs : goal.invariant-logs
invariant-logs l = record {
  few : l.agent + length l.logs ≤ AGENTS + 1;
  steps : l.steps.items ++ closes_from l.agent l.logs ≡ l.fn.steps.items ++ closes_from 1 l.fn.logs;
}

abbrev pub decreases-logs : goal.decreases-logs
decreases-logs l = length l.logs
