use Rattle.std.proofs.Common.{◌≡◌, true, refl, rules}
use Rattle.scmi_codec.specs.declared.fault.Fault.TheVariants.{HardwareError}
use Rattle.scmi_core.specs.declared.event.Event.TheVariants.{AdvanceFailed}
use Rattle.scmi_judge.specs.declared.unseen.Step.TheVariants.{Refuse}
use Rattle.scmi_judge.proofs.Guessing.{goes-unsent}
use Rattle.scmi_judge.proofs.guess.Guess.refuse.Goals as goal

pub returns-clause-goes : goal.returns-clause-goes
returns-clause-goes c went =
    let may : c.can_refuse.result ≡ true = search rules in
    goes-unsent c.args.unseen c.args.self.now _ Refuse (AdvanceFailed HardwareError) (λ move is. is)
    (λ a. refl) (λ h entries stands. (refl, c.can_refuse.ensures.may may h stands))
    (c.advance_failed.ensures.event went) c.advance_failed.ensures.board refl refl
