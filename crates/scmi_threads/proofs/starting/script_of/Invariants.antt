use Rattle.std.proofs.Common.{◌≡◌, drop}
use Rattle.scmi_link.specs.Scripts.{orders_of}
use Rattle.scmi_threads.proofs.starting.script_of.Given as goal

abbrev pub invariant-loop-script : goal.invariant-loop-script
invariant-loop-script l = orders_of (drop l.script-index l.scripts) l.agent
    ≡ orders_of l.scripts l.agent
