use Rattle.std.proofs.Common.{◌≡◌}
use Rattle.scmi_chart.proofs.record_step.record_dropped.Given as goal

abbrev pub invariant-dropped : goal.invariant-dropped
invariant-dropped l = l.recorder ≡ l.fn.recorder
