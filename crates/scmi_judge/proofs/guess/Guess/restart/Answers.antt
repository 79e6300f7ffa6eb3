use Rattle.std.proofs.Common.{◌≡◌, true, refl, rules}
use Rattle.scmi_core.specs.declared.event.Event.TheVariants.{Restarted}
use Rattle.scmi_judge.specs.declared.unseen.Step.TheVariants.{Restart}
use Rattle.scmi_judge.proofs.Guessing.{goes-unsent}
use Rattle.scmi_judge.proofs.guess.Guess.restart.Goals as goal

pub returns-clause-goes : goal.returns-clause-goes
returns-clause-goes c went =
    let may : c.args.unseen.restarts ≡ true = search rules in
    goes-unsent c.args.unseen c.args.self.now _ (Restart c.args.agent) (Restarted c.args.agent)
    (λ move is. is) (λ a. refl)
    (λ h entries stands. may) c.in-Ok.ensures.event c.restart.ensures.board refl refl
