use Rattle.std.proofs.Common.{◌≡◌, ◌+◌, ◌++◌, ◌∷◌, [], Err, true, refl, sym, subst, rules, arith}
use Rattle.std.proofs.lemmas.Grind.{common_steps}
use Rattle.scmi_judge.specs.Guess.{GoesOn}
use Rattle.scmi_judge.specs.Guesses.{IsIn, places}
use Rattle.scmi_judge.proofs.Among.{in-back, in-front, in-last, tried-there}
use Rattle.scmi_judge.proofs.Boards.{keep-made}
use Rattle.scmi_judge.proofs.Different.{absent, if-err, not-both, step-found, step-many}
use Rattle.scmi_judge.proofs.guesses.Guesses.try_step.Goals as goal

pub returns-then-is_same-clause-moves : goal.returns-then-is_same-clause-moves
returns-then-is_same-clause-moves c =
    let did : c.make.result ≡ true = search rules in
    let same : c.make.new.self ≡ c.args.guess.now = c.is_same.ensures.0 c.if-is_same.true in
    tried-there c.args.self.now.unseen c.args.guess.now c.copy_from.new.self c.make.new.self
    c.args.step _ c.copy_from.ensures (c.make.ensures.goes did)
    (in-front c.make.new.self (c.args.self.now.tried.items ++ c.args.guess.now ∷ [])
    c.args.self.now.left.items
    (subst (λ g. IsIn g (c.args.self.now.tried.items ++ c.args.guess.now ∷ []))
    (sym same) (in-last c.args.guess.now c.args.self.now.tried.items _ refl)))

pub returns-then-has-clause-moves : goal.returns-then-has-clause-moves
returns-then-has-clause-moves c =
    let did : c.make.result ≡ true = search rules in
    tried-there c.args.self.now.unseen c.args.guess.now c.copy_from.new.self c.make.new.self
    c.args.step _ c.copy_from.ensures (c.make.ensures.goes did)
    (in-front c.make.new.self
    (c.args.self.now.tried.items ++ c.args.guess.now ∷ []) c.args.self.now.left.items
    (in-front c.make.new.self c.args.self.now.tried.items (c.args.guess.now ∷ [])
    (subst (IsIn c.make.new.self) c.deref.ensures.value (c.has.ensures.0 c.if-has.true))))

pub returns-then-has-2-clause-moves : goal.returns-then-has-2-clause-moves
returns-then-has-2-clause-moves c =
    let did : c.make.result ≡ true = search rules in
    tried-there c.args.self.now.unseen c.args.guess.now c.copy_from.new.self c.make.new.self
    c.args.step _ c.copy_from.ensures (c.make.ensures.goes did)
    (in-back c.make.new.self
    (c.args.self.now.tried.items ++ c.args.guess.now ∷ []) c.args.self.now.left.items
    (subst (IsIn c.make.new.self) c.deref-2.ensures.value (c.has-2.ensures.0 c.if-has-2.true)))

pub returns-clause-moves : goal.returns-clause-moves
returns-clause-moves c =
    let did : c.make.result ≡ true = search rules in
    tried-there c.args.self.now.unseen c.args.guess.now c.copy_from.new.self c.make.new.self
    c.args.step _ c.copy_from.ensures (c.make.ensures.goes did)
    (in-back c.make.new.self
    (c.args.self.now.tried.items ++ c.args.guess.now ∷ []) c.keep_made.new.self.left.items
    (in-last c.make.new.self c.args.self.now.left.items c.keep_made.new.self.left.items
    c.in_ok-keep_made.ensures.kept))

pub returns-clause-keeps : goal.returns-clause-keeps
returns-clause-keeps c =
    keep-made c.args.self.now _ c.args.guess.now c.copy_from.new.self c.make.new.self
    c.requires.boards c.copy_from.ensures c.make.ensures.board c.keep_made.ensures.keeps

pub returns-in_err-keep_made-clause-keeps : goal.returns-in_err-keep_made-clause-keeps
returns-in_err-keep_made-clause-keeps c =
    keep-made c.args.self.now _ c.args.guess.now c.copy_from.new.self c.make.new.self
    c.requires.boards c.copy_from.ensures c.make.ensures.board c.keep_made.ensures.keeps

pub returns-clause-found : goal.returns-clause-found
returns-clause-found c board entries found =
    let did : c.make.result ≡ true = search rules in
    let made = c.make.new.self in
    let goes = subst (λ x. GoesOn c.args.self.now.unseen x c.args.step made) c.copy_from.ensures
    (c.make.ensures.goes did) in
    let other = λ (same : made ≡ c.args.guess.now).
    not-both _ c.if-is_same.false (c.is_same.ensures.1 same) in
    let untried = absent c.args.self.now.tried.items _ made c.has.result c.deref.ensures.value
    c.has.ensures c.if-has.false in
    let unleft = absent c.args.self.now.left.items _ made c.has-2.result c.deref-2.ensures.value
    c.has-2.ensures c.if-has-2.false in
    step-found c.args.self.now.unseen c.args.guess.now made c.args.step goes other _ _ untried
    unleft board entries found _ c.in_ok-keep_made.ensures.kept

pub returns-in_err-keep_made-clause-full : goal.returns-in_err-keep_made-clause-full
returns-in_err-keep_made-clause-full c =
    let did : c.make.result ≡ true = search rules in
    let made = c.make.new.self in
    let goes = subst (λ x. GoesOn c.args.self.now.unseen x c.args.step made) c.copy_from.ensures
    (c.make.ensures.goes did) in
    let other = λ (same : made ≡ c.args.guess.now).
    not-both _ c.if-is_same.false (c.is_same.ensures.1 same) in
    let untried = absent c.args.self.now.tried.items _ made c.has.result c.deref.ensures.value
    c.has.ensures c.if-has.false in
    let unleft = absent c.args.self.now.left.items _ made c.has-2.result c.deref-2.ensures.value
    c.has-2.ensures c.if-has-2.false in
    let failed : c.from_residual.result ≡ Err c.in_err-keep_made.field-0.0 =
    first_of (search rules, grind (arith, common_steps)) in
    if-err c.from_residual.result c.in_err-keep_made.field-0.0 _ failed
    (λ full board entries found.
    let none = c.in_err-keep_made.ensures.full full in
    step-many c.args.self.now.unseen c.args.guess.now made c.args.step goes other _ _ untried unleft
    board entries found (2 + places c.args.self.now)
    (rw none (omega arith)))
