use Rattle.std.proofs.Common.{◌≡◌, ◌+◌, ◌++◌, ◌∷◌, [], Err, ap, ◌∙◌, subst, rules, arith}
use Rattle.std.proofs.lemmas.Grind.{common_steps}
use Rattle.scmi_judge.specs.Exact.{AreTriedActs, HaveGrown, IsTried}
use Rattle.scmi_judge.specs.Guesses.{places}
use Rattle.scmi_judge.specs.declared.unseen.Step.TheVariants.{Complete, Refuse}
use Rattle.scmi_judge.proofs.Among.{grown-again, tried-later, tried-whole}
use Rattle.scmi_judge.proofs.Different.{finds-later, if-err, stays-found}
use Rattle.scmi_judge.proofs.guesses.Guesses.try_steps.Goals as goal

pub returns-clause-grown : goal.returns-clause-grown
returns-clause-grown c =
    let r = c.args.self.now.unseen in
    let g = c.args.guess.now in
    let left = c.args.self.now.left.items in
    let one = c.try_step.new.self in
    let two = c.try_step-2.new.self in
    let new = c.try_acts.new.self.left.items in
    let same-2 = c.try_step.ensures.keeps.unseen in
    let same-3 = c.try_step-2.ensures.keeps.unseen ∙ same-2 in
    let second = subst (λ x. HaveGrown x g one.left.items two.left.items) same-2
    c.in_ok-try_step-2.ensures.grown in
    let third = subst (λ x. HaveGrown x g two.left.items new) same-3
    c.in_ok-try_acts.ensures.grown in
    grown-again r g left one.left.items new c.in_ok-try_step.ensures.grown
    (grown-again r g one.left.items two.left.items new second third)

pub returns-clause-whole : goal.returns-clause-whole
returns-clause-whole c =
    let r = c.args.self.now.unseen in
    let g = c.args.guess.now in
    let all = c.args.self.now.tried.items ++ g ∷ [] in
    let one = c.try_step.new.self in
    let two = c.try_step-2.new.self in
    let new = c.try_acts.new.self.left.items in
    let same-2 = c.try_step.ensures.keeps.unseen in
    let same-3 = c.try_step-2.ensures.keeps.unseen ∙ same-2 in
    let tried-2 = c.try_step.ensures.tried in
    let tried-3 = c.try_step-2.ensures.tried ∙ tried-2 in
    let second = subst (λ x. HaveGrown x g one.left.items two.left.items) same-2
    c.in_ok-try_step-2.ensures.grown in
    let third = subst (λ x. HaveGrown x g two.left.items new) same-3
    c.in_ok-try_acts.ensures.grown in
    let fails = subst (λ x. IsTried x g Refuse (all ++ two.left.items)) same-2
    (subst (λ v. IsTried one.unseen g Refuse ((v.items ++ g ∷ []) ++ two.left.items)) tried-2
    c.in_ok-try_step-2.ensures.moves) in
    let acts = subst (λ x. AreTriedActs x g (all ++ new)) same-3
    (subst (λ v. AreTriedActs two.unseen g ((v.items ++ g ∷ []) ++ new)) tried-3
    c.in_ok-try_acts.ensures.acts) in
    tried-whole r g (all ++ new)
    (tried-later r g g Complete all two.left.items new third
    (tried-later r g g Complete all one.left.items two.left.items second
    c.in_ok-try_step.ensures.moves))
    (tried-later r g g Refuse all two.left.items new third fails) acts

pub returns-clause-found : goal.returns-clause-found
returns-clause-found c =
    let r = c.args.self.now.unseen in
    let g = c.args.guess.now in
    let tried = c.args.self.now.tried.items in
    let left = c.args.self.now.left.items in
    let one = c.try_step.new.self in
    let two = c.try_step-2.new.self in
    let same-2 = c.try_step.ensures.keeps.unseen in
    let same-3 = c.try_step-2.ensures.keeps.unseen ∙ same-2 in
    let tried-2 = c.try_step.ensures.tried in
    let tried-3 = c.try_step-2.ensures.tried ∙ tried-2 in
    stays-found r two.unseen g tried two.tried.items left two.left.items
    c.try_acts.new.self.left.items same-3
    (ap (λ v. v.items) tried-3)
    (stays-found r one.unseen g tried one.tried.items left one.left.items two.left.items same-2
    (ap (λ v. v.items) tried-2) c.in_ok-try_step.ensures.found c.in_ok-try_step-2.ensures.found)
    c.in_ok-try_acts.ensures.found

pub returns-in_err-try_step-2-clause-full : goal.returns-in_err-try_step-2-clause-full
returns-in_err-try_step-2-clause-full c =
    let one = c.try_step.new.self in
    let failed : c.from_residual-in_err-try_step-2.result ≡ Err c.in_err-try_step-2.field-0.0 =
    first_of (search rules, grind (arith, common_steps)) in
    if-err c.from_residual-in_err-try_step-2.result c.in_err-try_step-2.field-0.0 _ failed
    (λ full.
    finds-later c.args.self.now.unseen one.unseen c.args.guess.now c.args.self.now.tried.items
    one.tried.items c.args.self.now.left.items one.left.items (2 + places c.args.self.now)
    (2 + places one)
    c.try_step.ensures.keeps.unseen (ap (λ v. v.items) c.try_step.ensures.tried)
    (ap (λ n. 2 + n) c.in_ok-try_step.ensures.places) c.in_ok-try_step.ensures.found
    (c.in_err-try_step-2.ensures.full full))

pub returns-in_err-try_acts-clause-full : goal.returns-in_err-try_acts-clause-full
returns-in_err-try_acts-clause-full c =
    let r = c.args.self.now.unseen in
    let g = c.args.guess.now in
    let tried = c.args.self.now.tried.items in
    let left = c.args.self.now.left.items in
    let one = c.try_step.new.self in
    let two = c.try_step-2.new.self in
    let same = c.try_step.ensures.tried in
    let both = stays-found r one.unseen g tried one.tried.items left one.left.items two.left.items
    c.try_step.ensures.keeps.unseen (ap (λ v. v.items) same) c.in_ok-try_step.ensures.found
    c.in_ok-try_step-2.ensures.found in
    let failed : c.from_residual-in_err-try_acts.result ≡ Err c.in_err-try_acts.field-0.0 =
    first_of (search rules, grind (arith, common_steps)) in
    if-err c.from_residual-in_err-try_acts.result c.in_err-try_acts.field-0.0 _ failed
    (λ full.
    finds-later r two.unseen g tried two.tried.items left two.left.items
    (2 + places c.args.self.now) (2 + places two)
    (c.try_step-2.ensures.keeps.unseen ∙ c.try_step.ensures.keeps.unseen)
    (ap (λ v. v.items) (c.try_step-2.ensures.tried ∙ same))
    (ap (λ n. 2 + n) (c.in_ok-try_step-2.ensures.places ∙ c.in_ok-try_step.ensures.places)) both
    (c.in_err-try_acts.ensures.full full))
