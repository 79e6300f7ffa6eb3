use Rattle.std.proofs.Common.{◌≡◌, Some, take}
use Rattle.std.specs.List.{All}
use Rattle.scmi_modes.proofs.threads.any_stopped.Given as goal

abbrev pub invariant-loop-log : goal.invariant-loop-log
invariant-loop-log l = All (λ log. ¬ (log.stopped ≡ Some l.stop)) (take l.log-index l.logs)
