use Rattle.std.proofs.Common.{◌≡◌}
use Rattle.scmi_threads.specs.Orders.{HasAskedFor, IsAtRest, IsUndisturbed, LeavesRest}
use Rattle.scmi_threads.specs.ScriptRuns.{HasRun}
use Rattle.scmi_threads.proofs.script_run.ScriptRun.sees_state.Given as goal

abbrev pub invariant-calls : goal.invariant-calls
invariant-calls g l = record {
  ran : HasRun l.fn.self l.self;
  lines : l.self.log.lines ≡ l.fn.self.log.lines;
  rest : LeavesRest l.fn.self.end.caller l.self.end.caller l.fn.self.log l.self.log;
  asking : IsUndisturbed l.self.end.caller → IsAtRest l.fn.self.log → HasAskedFor
      l.fn.self.end.caller.closed l.fn.domain l.fn.state l._calls l.fn.self.log l.self.log;
}
