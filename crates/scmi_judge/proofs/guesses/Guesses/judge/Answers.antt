use Rattle.std.proofs.Common.{◌≡◌, ◌∷◌, ◌++◌, [], reverse, ap, sym, ◌∙◌, subst, rules, arith}
use Rattle.std.proofs.lemmas.Grind.{common_steps}
use Rattle.scmi_judge.specs.Exact.{AreExact, HaveGiven}
use Rattle.std.specs.List.{All}
use Rattle.std.proofs.lemmas.List.{reverse-reverse}
use Rattle.scmi_judge.specs.Behind.{HasLegalHistory}
use Rattle.scmi_judge.specs.Due.{IsDue}
use Rattle.scmi_judge.specs.Guess.{IsReal}
use Rattle.scmi_judge.specs.Guesses.{AreDifferent}
use Rattle.scmi_judge.proofs.Different.{found-start, real-reversed}
use Rattle.scmi_judge.proofs.Exactness.{exact-kept, exact-more}
use Rattle.scmi_judge.proofs.guesses.Guesses.judge.Goals as goal

pub returns-then-not-is_empty-clause-exact : goal.returns-then-not-is_empty-clause-exact
returns-then-not-is_empty-clause-exact c board entries exact same =
    let r = c.args.self.now.unseen in
    let given = subst (λ x. HaveGiven x c.close.new.self.tried.items c.args.entry.now
    c.give.new.self.left.items) c.close.ensures.keeps.unseen c.in_ok-give.ensures.given in
    subst (λ v. AreExact r board (c.args.entry.now ∷ entries) v.items)
    (sym c.free_others.ensures.left)
    (exact-more r board entries c.args.entry.now c.args.self.now.left.items
    c.close.new.self.tried.items c.give.new.self.left.items exact c.in_ok-close.ensures.kept
    c.in_ok-close.ensures.closed given)

pub returns-clause-lost : goal.returns-clause-lost
returns-clause-lost c board entries exact differs =
    let r = c.args.self.now.unseen in
    let none : c.give.new.self.left.items ≡ [] =
    first_of (search rules, grind (arith, common_steps)) in
    let given = subst (λ x. HaveGiven x c.close.new.self.tried.items c.args.entry.now
    c.give.new.self.left.items) c.close.ensures.keeps.unseen c.in_ok-give.ensures.given in
    subst (λ xs. AreExact r board (c.args.entry.now ∷ entries) xs) none
    (exact-more r board entries c.args.entry.now c.args.self.now.left.items
    c.close.new.self.tried.items c.give.new.self.left.items exact c.in_ok-close.ensures.kept
    c.in_ok-close.ensures.closed given)

pub returns-clause-tried : goal.returns-clause-tried
returns-clause-tried c = ap (λ v. v.items) (c.keep_others.ensures.tried ∙ c.due-due.ensures.tried)
    ∙ c.in_ok-give.ensures.tried

pub returns-clause-stays : goal.returns-clause-stays
returns-clause-stays c board entries exact differ other =
    let r = c.args.self.now.unseen in
    let all = c.close.new.self.tried.items in
    let none : c.give.new.self.left.items ≡ [] =
    first_of (search rules, grind (arith, common_steps)) in
    let others : c.due-due.new.self.others.items ≡ reverse all =
    ap (λ v. v.items) c.due-due.ensures.others ∙ c.in_ok-give.ensures.apart none ∙ ap
    (λ xs. xs ++ reverse all) (ap (λ v. v.items) c.close.ensures.others ∙ c.requires.others) in
    let left : c.due-due.new.self.left.items ≡ [] =
    ap (λ v. v.items) c.due-due.ensures.left ∙ none in
    let is : c.keep_others.new.self.left.items ≡ all =
    c.in_ok-keep_others.ensures.left ∙ ap (λ xs. xs ++ reverse c.due-due.new.self.others.items) left
    ∙ ap reverse others ∙ reverse-reverse all in
    let found = c.in_ok-close.ensures.found board entries
    (found-start r board entries c.args.self.now.left.items exact.real differ) in (
      subst (AreExact r board entries) (sym is) (exact-kept
          r board entries c.args.self.now.left.items all exact c.in_ok-close.ensures.kept),
      subst AreDifferent (sym is) found.tried_differ,
    )

pub returns-clause-due : goal.returns-clause-due
returns-clause-due c board entries exact =
    let r = c.args.self.now.unseen in
    let all = c.close.new.self.tried.items in
    let none : c.give.new.self.left.items ≡ [] =
    first_of (search rules, grind (arith, common_steps)) in
    let others : c.give.new.self.others.items ≡ reverse all = c.in_ok-give.ensures.apart none ∙ ap
    (λ xs. xs ++ reverse all) (ap (λ v. v.items) c.close.ensures.others ∙ c.requires.others) in
    let same = c.give.ensures.keeps.unseen ∙ c.close.ensures.keeps.unseen in
    let real = subst (All (IsReal r board entries)) (sym others) (real-reversed r board entries all
    (c.in_ok-close.ensures.kept.real board entries exact.real)) in
    subst (λ x. IsDue c.due-due.result c.args.entry.now
    (λ due. HasLegalHistory x board (due ∷ entries))) same
    (c.due-due.ensures.right board entries
    (subst (λ x. All (IsReal x board entries) c.give.new.self.others.items) (sym same) real))
