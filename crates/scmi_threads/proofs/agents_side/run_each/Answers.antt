use Rattle.scmi_threads.specs.ScriptRuns.{HasPlayed}
use Rattle.scmi_threads.proofs.EachLemmas.{along}
use Rattle.scmi_threads.proofs.agents_side.run_each.Goals as goal

pub returns : goal.returns
returns g c i d h =
    let e = (c.for_each_mut.ensures i d h).1 in
    along (HasPlayed g.C.Channel.FULL (g.G.Gate.asked c.args.gate.now)) _ _ _ _ e.argument_is
    e.left e.call
