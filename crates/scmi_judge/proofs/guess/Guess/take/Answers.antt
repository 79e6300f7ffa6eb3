use Rattle.std.proofs.Common.{◌≡◌, ◌<◌, ◌-◌, true, length, refl, rules, arith}
use Rattle.std.proofs.lemmas.Grind.{common_steps}
use Rattle.scmi_judge.proofs.Guessing.{gives-message}
use Rattle.scmi_judge.proofs.guess.Guess.take.Goals as goal

pub returns-clause-gives : goal.returns-clause-gives
returns-clause-gives c went may =
    let has : c.has_agent.result ≡ true = search rules in
    let posted : c.has_posted.result ≡ true = search rules in
    let within : c.args.agent - 1 < length c.args.self.now.posted =
    first_of (search rules, grind (arith, common_steps)) in
    gives-message may c.args.self.now _ c.args.agent c.args.message.now
    (c.has_agent.ensures.is.0 has) within (c.has_posted.ensures.0 posted) refl refl refl
