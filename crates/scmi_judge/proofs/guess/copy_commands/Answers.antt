use Rattle.scmi_judge.proofs.Guessing.{eight-same}
use Rattle.scmi_judge.proofs.guess.copy_commands.Goals as goal

pub returns : goal.returns
returns c =
    eight-same c.places.commands c.args.others.now _ c.places.invariant.long c.type_inv.others
    c.places-test.false
    c.places.invariant.same
