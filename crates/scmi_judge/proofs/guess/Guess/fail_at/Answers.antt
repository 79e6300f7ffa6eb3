use Rattle.std.proofs.Common.{◌<◌, length, refl, rules, arith}
use Rattle.std.proofs.lemmas.Grind.{common_steps}
use Rattle.scmi_judge.proofs.Executing.{goes-failed}
use Rattle.scmi_judge.proofs.guess.Guess.fail_at.Goals as goal

pub returns-clause-goes : goal.returns-clause-goes
returns-clause-goes c went may =
    let within : c.args.place < length c.args.self.now.outstanding =
    first_of (search rules, grind (arith, common_steps)) in
    goes-failed may c.args.self.now _ c.args.place c.in-Some.command.agent c.in-Some.command.frame _
    c.in-Some.ensures.some within refl c.in-Ok.ensures.event refl refl c.in-Ok.ensures.answer
