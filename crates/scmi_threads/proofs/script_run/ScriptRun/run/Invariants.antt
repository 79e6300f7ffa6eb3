use Rattle.std.proofs.Common.{◌≡◌, ℕ, ◌<◌, ◌-◌, ◌^◌, min, take}
use Rattle.scmi_link.specs.View.{new_caller}
use Rattle.scmi_threads.specs.Logs.{IsEmptyLog}
use Rattle.scmi_threads.specs.Orders.{IsUndisturbed}
use Rattle.scmi_threads.specs.ScriptRuns.{HasRun}
use Rattle.scmi_threads.specs.ScriptLogs.{line_number}
use Rattle.scmi_threads.proofs.ScriptLemmas.{HasFollowed}
use Rattle.scmi_threads.proofs.script_run.ScriptRun.run.Given as goal

abbrev pub invariant-orders : goal.invariant-orders
invariant-orders g l = record {
  ran : HasRun l.fn.self l.self;
  followed : IsEmptyLog l.fn.self.log
      → l.fn.self.end.caller ≡ new_caller → IsUndisturbed l.self.end.caller
      → HasFollowed g.C.Channel.FULL (take l.order-index l.script) l.self.end.caller l.self.log;
  line : l.line ≡ min l.order-index (2 ^ 32 - 1);
  gate : (k : ℕ) → k < l.order-index → g.G.Gate.asked l.fn.gate l.fn.self.end.id (line_number k);
}
