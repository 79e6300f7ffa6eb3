use Rattle.std.proofs.Common.{◌≤◌}
use Rattle.scmi_tests.proofs.probe.exchanges.repeat.Given as goal

abbrev pub invariant-exchanges : goal.invariant-exchanges
invariant-exchanges g l = 1 ≤ l.session
