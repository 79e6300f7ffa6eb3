use Rattle.std.proofs.Common.{◌≡◌, ◌<◌, None, length, refl, rules, arith}
use Rattle.std.specs.Prelude.{set}
use Rattle.std.proofs.lemmas.Grind.{common_steps}
use Rattle.std.proofs.lemmas.List.{length-set}
use Rattle.scmi_judge.specs.Guess.{command_at}
use Rattle.scmi_judge.proofs.Executing.{gives-up, set-at, unset}
use Rattle.scmi_judge.proofs.guess.Guess.give_up.Goals as goal

pub returns-then-is_some-clause-gives : goal.returns-then-is_some-clause-gives
returns-then-is_some-clause-gives c may =
    let old = c.args.self.now in
    let new = record old { outstanding = set old.outstanding c.args.place None } in
    let within : c.args.place < length old.outstanding =
    first_of (search rules, grind (arith, common_steps)) in
    gives-up may old new c.args.place refl refl (length-set old.outstanding c.args.place None)
    (set-at old new c.args.place None refl within)

pub returns-else-is_some-clause-gives : goal.returns-else-is_some-clause-gives
returns-else-is_some-clause-gives c may =
    let none : command_at c.args.self.now c.args.place ≡ None =
    first_of (search rules, grind (arith, common_steps)) in
    gives-up may c.args.self.now c.args.self.now c.args.place refl refl refl
    (unset c.args.self.now c.args.place none)
