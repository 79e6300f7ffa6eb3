use Rattle.std.proofs.Common.{◌≡◌, ◌<◌, vec_len, vec_capacity}
use Rattle.scmi_ends.specs.Poll.{more_calls}
use Rattle.scmi_threads.specs.Orders.{IsUnmoved}
use Rattle.scmi_threads.specs.ScriptRuns.{HasRun}
use Rattle.scmi_threads.proofs.script_run.ScriptRun.take_message.Given as goal

abbrev pub invariant-turns : goal.invariant-turns
invariant-turns g l = record {
  ran : HasRun l.fn.self l.self;
  p2a : vec_len l.self.log.p2a < vec_capacity l.self.log.p2a;
  room : vec_len l.self.log.lines < vec_capacity l.self.log.lines;
  unmoved : IsUnmoved l.fn.self.end.caller l.self.end.caller l.fn.self.log l.self.log;
  taken : l.self.log.p2a.items ≡ l.fn.self.log.p2a.items;
  lines : l.self.log.lines.items ≡ l.fn.self.log.lines.items;
  looks : l.self.log.message_looks ≡ more_calls l.counter l.fn.self.log.message_looks;
}
