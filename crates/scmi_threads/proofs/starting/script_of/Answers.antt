use Rattle.std.proofs.Common.{◌∙◌}
use Rattle.scmi_threads.proofs.Started.{found}
use Rattle.scmi_threads.proofs.starting.script_of.Goals as goal

pub returns-then-script-agent : goal.returns-then-script-agent
returns-then-script-agent c = c.deref.ensures.value
    ∙ found c.args.scripts.now c.loop-script.script-index c.args.agent c.script-item.result
    c.loop-script-test.true c.script-item.is c.if-script-agent.true c.loop-script.invariant
