use Rattle.std.proofs.Common.{◌≡◌, ◌∷◌, ◌++◌, [], true, refl, ap, sym, ◌∙◌, subst}
use Rattle.std.proofs.lemmas.List.Elements.{All-nil}
use Rattle.scmi_judge.specs.Exact.{AreExact, IsOfBoard}
use Rattle.scmi_judge.specs.Guesses.{AreDifferent}
use Rattle.scmi_judge.specs.declared.guess.Guess.{Guess}
use Rattle.scmi_judge.proofs.Boards.{of-pushed}
use Rattle.scmi_judge.proofs.Different.{different-one}
use Rattle.scmi_judge.proofs.Exactness.{exact-start}
use Rattle.scmi_judge.proofs.judge.Judge.new.Goals as goal

pub returns-clause-start : goal.returns-clause-start
returns-clause-start c =
    let first = c.in_ok-first.first in
    let may = c.args.unseen in
    let one : c.push.new.self.items ≡ first ∷ [] =
    c.in-Ok.ensures.items ∙ ap (λ xs. xs ++ first ∷ []) c.new-left.ensures.items in
    let board = c.in_ok-made.ensures.board ∙ c.requires in
    record {
      sure = refl;
      exact = subst (λ b. AreExact may b [] c.push.new.self.items) (sym board)
          (subst (λ xs. AreExact may c.args.plan [] xs) (sym one)
          (exact-start may c.args.plan first (c.in_ok-first.ensures.start may)));
      different = subst AreDifferent (sym one) (different-one first);
    }

pub invariant_of-result : goal.invariant_of-result
invariant_of-result c =
    let plan = c.args.plan in
    let none = All-nil (λ (g : Guess). g.platform.board ≡ plan) in
    record {
      boards = (
        plan,
        record {
          left = of-pushed plan _ _ c.in_ok-first.first true c.in-Ok.ensures.items
              (subst (IsOfBoard plan) (sym c.new-left.ensures.items) none)
              c.in_ok-first.ensures.board;
          tried = subst (IsOfBoard plan) (sym c.new-3.ensures.items) none;
          others = subst (IsOfBoard plan) (sym c.new-4.ensures.items) none;
          spare = subst (IsOfBoard plan) (sym c.new-5.ensures.items) none;
          made = c.in_ok-made.ensures.board ∙ c.requires;
        },
      );
      window = c.new-6.ensures c.in_ok-made.made.platform.board;
      tried = λ sure. c.new-3.ensures.items;
      others = λ sure. c.new-4.ensures.items;
    }
