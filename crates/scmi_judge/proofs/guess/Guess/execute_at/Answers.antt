use Rattle.std.proofs.Common.{◌<◌, length, Some, ap, rules, arith}
use Rattle.std.specs.Prelude.{set}
use Rattle.std.proofs.lemmas.Grind.{common_steps}
use Rattle.scmi_judge.specs.Moves.{outstanding}
use Rattle.scmi_judge.proofs.Executing.{goes-done}
use Rattle.scmi_judge.proofs.guess.Guess.execute_at.Goals as goal

pub returns-clause-goes : goal.returns-clause-goes
returns-clause-goes c went may =
    let within : c.args.place < length c.args.self.now.outstanding =
    first_of (search rules, grind (arith, common_steps)) in
    let command = c.in-Some.command in
    let new =
    record c.executed.new.self {
      outstanding = set c.executed.new.self.outstanding c.args.place
          (Some (outstanding command.agent command.frame (Some c.in-Some-executed.answer)));
    } in
    goes-done may c.args.self.now new c.args.place command.agent command.frame
    c.in-Some-executed.answer c.in-Some.ensures.some within
    (ap (λ cs. set cs c.args.place (Some (outstanding command.agent command.frame
    (Some c.in-Some-executed.answer)))) c.executed.ensures.outstanding)
    c.in-Some-executed.ensures.event c.executed.ensures.board c.executed.ensures.posted
    c.in-Some-executed.ensures.answer
