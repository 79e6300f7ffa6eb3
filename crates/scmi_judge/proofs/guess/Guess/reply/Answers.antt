use Rattle.std.proofs.Common.{◌≡◌, ◌<◌, None, length, true, refl, rules, arith}
use Rattle.std.specs.Prelude.{set}
use Rattle.std.proofs.lemmas.Grind.{common_steps}
use Rattle.scmi_judge.proofs.Executing.{gives-replied}
use Rattle.scmi_judge.proofs.guess.Guess.reply.Goals as goal

pub returns-clause-gives : goal.returns-clause-gives
returns-clause-gives c went may =
    let old = c.args.self.now in
    let has : c.has_answered.result ≡ true = search rules in
    let within : c.args.place < length old.outstanding =
    first_of (search rules, grind (arith, common_steps)) in
    gives-replied may old (record old { outstanding = set old.outstanding c.args.place None })
    c.args.place c.args.agent c.args.frame.now c.args.answer.now within
    (c.has_answered.ensures.yes has) refl refl refl
