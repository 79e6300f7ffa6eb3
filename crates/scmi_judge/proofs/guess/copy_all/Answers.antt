use Rattle.scmi_judge.proofs.Guessing.{eight-same}
use Rattle.scmi_judge.proofs.guess.copy_all.Goals as goal

pub returns : goal.returns
returns c =
    eight-same c.agents.posted c.args.others.now _ c.agents.invariant.long c.type_inv.others
    c.agents-test.false
    c.agents.invariant.same
