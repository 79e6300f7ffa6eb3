use Rattle.std.proofs.Common.{arith}
use Rattle.scmi_threads.specs.ScriptRuns.{HasPlayed}
use Rattle.scmi_threads.proofs.EachLemmas.{all_zip_at}
use Rattle.scmi_threads.proofs.agents_side.run_all.Goals as goal

pub returns : goal.returns
returns g c = all_zip_at (HasPlayed g.C.Channel.FULL (g.G.Gate.asked c.args.gate.now))
    c.args.script_runs.now c.run_each.new.script_runs (omega arith) c.run_each.ensures
