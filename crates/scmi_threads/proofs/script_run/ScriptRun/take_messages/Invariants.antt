use Rattle.scmi_threads.specs.Orders.{IsUnmoved}
use Rattle.scmi_threads.specs.ScriptRuns.{HasRun}
use Rattle.scmi_threads.proofs.OrderLemmas.{HasTakenMany}
use Rattle.scmi_threads.proofs.script_run.ScriptRun.take_messages.Given as goal

abbrev pub invariant-messages : goal.invariant-messages
invariant-messages g l = record {
  ran : HasRun l.fn.self l.self;
  unmoved : IsUnmoved l.fn.self.end.caller l.self.end.caller l.fn.self.log l.self.log;
  taken : HasTakenMany l.fn.self.end.caller.closed l._taken l.fn.self.log l.self.log;
}
