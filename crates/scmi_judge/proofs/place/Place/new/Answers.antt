use Rattle.std.proofs.Common.{[], sym, subst}
use Rattle.scmi_judge.specs.Guess.{IsGuess}
use Rattle.scmi_judge.proofs.place.Place.new.Goals as goal

pub returns-in-Ok-clause-start : goal.returns-in-Ok-clause-start
returns-in-Ok-clause-start c = λ may.
    subst (λ g. IsGuess may c.args.plan g [] []) (sym c.in-Ok.ensures.ok) (c.new.ensures.start may)
