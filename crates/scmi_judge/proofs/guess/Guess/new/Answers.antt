use Rattle.std.proofs.Common.{refl}
use Rattle.scmi_judge.proofs.Guessing.{guess-start}
use Rattle.scmi_judge.proofs.guess.Guess.new.Goals as goal

pub returns-clause-start : goal.returns-clause-start
returns-clause-start c = λ may. guess-start may c.args.plan _ c.new-platform.ensures.board
    c.new-platform.ensures.start refl refl
