use Rattle.std.proofs.Common.{refl, sym, subst}
use Rattle.scmi_core.specs.declared.event.Event.TheVariants.{Advance}
use Rattle.scmi_judge.specs.Guess.{GoesOn}
use Rattle.scmi_judge.specs.declared.unseen.Step.TheVariants.{Complete}
use Rattle.scmi_judge.proofs.Guessing.{goes-unsent}
use Rattle.scmi_judge.proofs.guess.Guess.make.Goals as goal

pub returns-in-Complete-clause-goes : goal.returns-in-Complete-clause-goes
returns-in-Complete-clause-goes c went =
    subst (λ s. GoesOn c.args.unseen c.args.self.now s record {
      platform = c.advance.new.self;
      posted = c.args.self.now.posted;
      outstanding = c.args.self.now.outstanding;
    })
    (sym c.in-Complete.is)
    (goes-unsent c.args.unseen c.args.self.now _ Complete Advance (λ move is. is) (λ a. refl)
    (λ h entries stands. tt) (c.advance.ensures.event went) c.advance.ensures.board refl refl)
