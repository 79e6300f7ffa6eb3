use Rattle.std.proofs.Common.{◌≡◌, ◌+◌, ◌<◌, ◌++◌, ◌∷◌, [], Err, length, refl, sym, ap, ◌∙◌, subst, rules, arith}
use Rattle.std.proofs.lemmas.Grind.{common_steps}
use Rattle.scmi_judge.specs.Exact.{HaveGrown, IsTried, IsTriedAbove}
use Rattle.scmi_judge.specs.Unseen.{count_of, step_of}
use Rattle.scmi_judge.proofs.Among.{above-later, each-above, grown-again, grown-none, tried-down}
use Rattle.scmi_judge.proofs.Boards.{keep-again}
use Rattle.scmi_judge.specs.Guesses.{places}
use Rattle.scmi_judge.proofs.Different.{finds-later, if-err, stays-found}
use Rattle.scmi_judge.specs.declared.guess.Guess.{Guess}
use Rattle.scmi_judge.proofs.guesses.Guesses.try_each.Goals as goal

pub numbers-init : goal.numbers-init
numbers-init c =
    let r = c.args.self.now.unseen in
    let g = c.args.guess.now in
    let all = (c.args.self.now.tried.items ++ g ∷ []) ++ c.args.self.now.left.items in
    let agents = c.agents.ensures.count
    ∙ ap (λ (x : Guess). length x.platform.board.agents) c.get.ensures in
    let count = c.count-number.ensures ∙ ap (count_of c.args.act) agents in
    record {
      keeps = record { boards = λ board of. of; unseen = refl };
      tried = refl;
      others = refl;
      places = refl;
      grown = grown-none r g c.args.self.now.left.items;
      found = λ board entries found. found;
      each = subst (λ n. IsTriedAbove r g c.args.act n all) (sym count)
          (each-above r g c.args.act all);
    }

pub numbers-preserved : goal.numbers-preserved
numbers-preserved c =
    let r = c.args.self.now.unseen in
    let g = c.args.guess.now in
    let tried-before = c.args.self.now.tried.items in
    let all = tried-before ++ g ∷ [] in
    let new = c.try_step.new.self.left.items in
    let before = c.numbers.invariant in
    let some : 0 < c.numbers.number = omega arith in
    let grown = subst (λ x. HaveGrown x g c.numbers.self.left.items new) before.keeps.unseen
    c.in_ok-try_step.ensures.grown in
    let step = step_of c.args.act c.numbers.number in
    let moves = subst (λ e. IsTried c.numbers.self.unseen g e
    ((c.numbers.self.tried.items ++ g ∷ []) ++ new)) c.step.ensures
    c.in_ok-try_step.ensures.moves in
    let tried = subst (λ x. IsTried x g step (all ++ new)) before.keeps.unseen
    (subst (λ v. IsTried c.numbers.self.unseen g step ((v.items ++ g ∷ []) ++ new))
    before.tried moves) in
    record {
      keeps = keep-again c.args.self.now c.numbers.self c.try_step.new.self before.keeps
          c.try_step.ensures.keeps;
      tried = c.try_step.ensures.tried ∙ before.tried;
      others = c.try_step.ensures.others ∙ before.others;
      places = c.in_ok-try_step.ensures.places ∙ before.places;
      grown = grown-again r g c.args.self.now.left.items c.numbers.self.left.items new
          before.grown grown;
      found = stays-found r c.numbers.self.unseen g tried-before c.numbers.self.tried.items
          c.args.self.now.left.items c.numbers.self.left.items new before.keeps.unseen
          (ap (λ v. v.items) before.tried) before.found
          c.in_ok-try_step.ensures.found;
      each = tried-down r g c.args.act c.numbers.number (all ++ new) some tried
          (above-later r g g c.args.act c.numbers.number all c.numbers.self.left.items new
          grown before.each);
    }

pub returns-in_err-try_step-clause-full : goal.returns-in_err-try_step-clause-full
returns-in_err-try_step-clause-full c =
    let before = c.numbers.invariant in
    let failed : c.from_residual.result ≡ Err c.in_err-try_step.field-0.0 =
    first_of (search rules, grind (arith, common_steps)) in
    if-err c.from_residual.result c.in_err-try_step.field-0.0 _ failed
    (λ full.
    finds-later c.args.self.now.unseen c.numbers.self.unseen c.args.guess.now
    c.args.self.now.tried.items c.numbers.self.tried.items c.args.self.now.left.items
    c.numbers.self.left.items
    (2 + places c.args.self.now) (2 + places c.numbers.self) before.keeps.unseen
    (ap (λ v. v.items) before.tried) (ap (λ n. 2 + n) before.places) before.found
    (c.in_err-try_step.ensures.full full))
