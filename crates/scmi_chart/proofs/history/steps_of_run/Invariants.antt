use Rattle.std.proofs.Common.{◌≡◌, ◌++◌, [], length}
use Rattle.scmi_chart.specs.History.{steps_after}
use Rattle.scmi_chart.proofs.history.steps_of_run.Given as goal

abbrev pub invariant-events : goal.invariant-events
invariant-events l = l.steps.items ++ steps_after l.logs l.sent.items l.events
    ≡ steps_after l.logs [] l.fn.trace.events

abbrev pub decreases-events : goal.decreases-events
decreases-events l = length l.events
