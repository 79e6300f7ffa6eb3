use Rattle.std.proofs.Common.{◌≡◌, ◌+◌, ◌≤◌, ◌++◌, ◌∷◌, [], get_or, Err, ap, ◌∙◌, subst, rules, arith}
use Rattle.std.proofs.lemmas.Grind.{common_steps}
use Rattle.std.proofs.lemmas.Option.{slice_get_within}
use Rattle.scmi_judge.specs.declared.unseen.TheConstants.{ACTS}
use Rattle.scmi_judge.specs.Exact.{HaveGrown, IsTriedAbove}
use Rattle.scmi_judge.specs.Guesses.{places}
use Rattle.scmi_judge.proofs.Among.{acts-next, acts-tried, grown-again}
use Rattle.scmi_judge.proofs.Boards.{keep-again}
use Rattle.scmi_judge.proofs.Different.{finds-later, if-err, stays-found}
use Rattle.scmi_judge.proofs.guesses.Guesses.try_acts.Goals as goal

pub acts-preserved : goal.acts-preserved
acts-preserved c =
    let r = c.args.self.now.unseen in
    let g = c.args.guess.now in
    let tried-before = c.args.self.now.tried.items in
    let all = tried-before ++ g ∷ [] in
    let new = c.try_each.new.self.left.items in
    let before = c.acts.invariant in
    let grown = subst (λ x. HaveGrown x g c.acts.self.left.items new) before.keeps.unseen
    c.in_ok-try_each.ensures.grown in
    record {
      keeps = keep-again c.args.self.now c.acts.self c.try_each.new.self before.keeps
          c.try_each.ensures.keeps;
      tried = c.try_each.ensures.tried ∙ before.tried;
      others = c.try_each.ensures.others ∙ before.others;
      places = c.in_ok-try_each.ensures.places ∙ before.places;
      grown = grown-again r g c.args.self.now.left.items c.acts.self.left.items new
          before.grown grown;
      found = stays-found r c.acts.self.unseen g tried-before c.acts.self.tried.items
          c.args.self.now.left.items c.acts.self.left.items new before.keeps.unseen
          (ap (λ v. v.items) before.tried) before.found
          c.in_ok-try_each.ensures.found;
      each = acts-next r g all c.acts.self.left.items new ACTS c.acts.act-index _ grown before.each
          (subst (λ x. IsTriedAbove x g (get_or ACTS c.acts.act-index _) 0 (all ++ new))
          before.keeps.unseen
          (subst (λ v. IsTriedAbove c.acts.self.unseen g (get_or ACTS c.acts.act-index _) 0
          ((v.items ++ g ∷ []) ++ new)) before.tried c.in_ok-try_each.ensures.each));
    }

pub returns-clause-acts : goal.returns-clause-acts
returns-clause-acts c =
    let ended : 4 ≤ c.acts.act-index = first_of (search rules, grind (arith, common_steps)) in
    acts-tried c.args.self.now.unseen c.args.guess.now
    ((c.args.self.now.tried.items ++ c.args.guess.now ∷ []) ++ c.acts.self.left.items)
    (λ n a is. c.acts.invariant.each n a
    (let less = slice_get_within ACTS n a is in omega (arith, less, ended)) is)

pub returns-in_err-try_each-clause-full : goal.returns-in_err-try_each-clause-full
returns-in_err-try_each-clause-full c =
    let before = c.acts.invariant in
    let failed : c.from_residual.result ≡ Err c.in_err-try_each.field-0.0 =
    first_of (search rules, grind (arith, common_steps)) in
    if-err c.from_residual.result c.in_err-try_each.field-0.0 _ failed
    (λ full.
    finds-later c.args.self.now.unseen c.acts.self.unseen c.args.guess.now
    c.args.self.now.tried.items c.acts.self.tried.items c.args.self.now.left.items
    c.acts.self.left.items
    (2 + places c.args.self.now) (2 + places c.acts.self) before.keeps.unseen
    (ap (λ v. v.items) before.tried) (ap (λ n. 2 + n) before.places) before.found
    (c.in_err-try_each.ensures.full full))
