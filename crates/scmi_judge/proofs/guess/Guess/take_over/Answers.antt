use Rattle.std.proofs.Common.{refl}
use Rattle.scmi_judge.proofs.Guessing.{gives-told}
use Rattle.scmi_judge.proofs.guess.Guess.take_over.Goals as goal

pub returns-clause-gives : goal.returns-clause-gives
returns-clause-gives c went may =
    gives-told may c.args.self.now _ c.args.report
    (c.tell.ensures.event went) c.tell.ensures.board refl refl
