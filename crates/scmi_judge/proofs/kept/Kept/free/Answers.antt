use Rattle.std.proofs.Common.{◌≡◌, [], is_ok, sym, subst, rules, arith}
use Rattle.std.proofs.lemmas.Grind.{common_steps}
use Rattle.std.proofs.lemmas.List.Elements.{All-nil}
use Rattle.scmi_judge.specs.Exact.{IsOfBoard}
use Rattle.scmi_judge.specs.declared.guess.Guess.{Guess}
use Rattle.scmi_judge.proofs.Boards.{of-popped, of-pushed}
use Rattle.scmi_judge.proofs.kept.Kept.free.Goals as goal

pub each-preserved : goal.each-preserved
each-preserved c = λ board of.
    let before = c.each.invariant board of in
    let both = of-popped board _ _ c.in-Some.place c.in-Some.ensures.items before.guesses in
    record {
      guesses = both.0;
      spare = of-pushed board _ _ c.in-Some.place (is_ok c.push.result) c.push.ensures.items
          before.spare both.1;
    }

pub returns-in_default-push-clause-boards : goal.returns-in_default-push-clause-boards
returns-in_default-push-clause-boards c = λ board of.
    let before = c.each.invariant board of in
    let both = of-popped board _ _ c.in-Some.place c.in-Some.ensures.items before.guesses in
    record {
      guesses = both.0;
      spare = of-pushed board _ _ c.in-Some.place (is_ok c.push.result) c.push.ensures.items
          before.spare both.1;
    }

pub returns-clause-boards : goal.returns-clause-boards
returns-clause-boards c = λ board of.
    let none : c.pop.new.self.items ≡ [] =
    first_of (search rules, grind (arith, common_steps)) in
    record {
      guesses = subst (IsOfBoard board) (sym none)
          (All-nil (λ (g : Guess). g.platform.board ≡ board));
      spare = (c.each.invariant board of).spare;
    }
