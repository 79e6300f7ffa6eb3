use Rattle.std.proofs.Common.{◌≡◌, ◌<◌, length, true, None, Some, refl, ap, rules, arith}
use Rattle.std.specs.Prelude.{set}
use Rattle.std.proofs.lemmas.Grind.{common_steps}
use Rattle.scmi_judge.specs.Guess.{command_at}
use Rattle.scmi_judge.specs.Moves.{outstanding}
use Rattle.scmi_judge.proofs.Executing.{gives-asked}
use Rattle.scmi_judge.proofs.guess.Guess.ask.Goals as goal

pub returns-clause-gives : goal.returns-clause-gives
returns-clause-gives c went may =
    let has : c.has_agent.result ≡ true = search rules in
    let old = c.args.self.now in
    let within : c.args.place < length old.outstanding =
    first_of (search rules, grind (arith, common_steps)) in
    let few : c.args.place < 8 = first_of (search rules, grind (arith, common_steps)) in
    let free : command_at old c.args.place ≡ None =
    first_of (search rules, grind (arith, common_steps)) in
    gives-asked may old (record old {
      outstanding = set old.outstanding c.args.place
          (Some (outstanding c.args.agent c.copy.result None));
    })
    c.args.place c.args.agent c.args.frame.now
    (c.has_agent.ensures.is.0 has) few within free refl refl
    (ap (λ f. set old.outstanding c.args.place (Some (outstanding c.args.agent f None)))
    c.copy.ensures)
