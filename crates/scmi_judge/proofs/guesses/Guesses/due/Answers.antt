use Rattle.std.proofs.Common.{◌≡◌, ◌-◌, ◌<◌, length, get_or, sym, subst, rules, arith}
use Rattle.std.proofs.lemmas.Grind.{common_steps}
use Rattle.scmi_judge.specs.Guess.{IsReal}
use Rattle.scmi_judge.proofs.Dues.{due-given}
use Rattle.scmi_judge.proofs.guesses.Guesses.due.Goals as goal

pub returns-then-show-clause-right : goal.returns-then-show-clause-right
returns-then-show-clause-right c board entries real =
    let r = c.args.self.now.unseen in
    let others = c.args.self.now.others.items in
    let g = c.index-in-Some.result.now in
    let place = c.others.place - 1 in
    let less : place < length others = first_of (search rules, grind (arith, common_steps)) in
    let is : g ≡ get_or others place g = first_of (search rules, grind (arith, common_steps)) in
    due-given r board entries c.in-Some.due c.args.entry.now c.in_place.result g
    c.copy_from-in-Some.new.self c.show.new.self c.in_place.ensures c.copy_from-in-Some.ensures
    (c.show.ensures.gives c.if-show.true)
    (subst (IsReal r board entries) (sym is) (real place g less))
