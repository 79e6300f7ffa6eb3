use Rattle.std.proofs.Common.{◌≡◌, ◌+◌, ◌∷◌, [], length, is_ok, ap, ◌∙◌, rules, arith}
use Rattle.std.proofs.lemmas.Grind.{common_steps}
use Rattle.std.proofs.lemmas.List.{length-append}
use Rattle.scmi_judge.proofs.Boards.{of-popped, of-pushed}
use Rattle.scmi_judge.proofs.guesses.Guesses.free_others.Goals as goal

pub each-preserved : goal.each-preserved
each-preserved c =
    record {
      keeps = record {
        boards = λ board of.
            let before = c.each.invariant.keeps.boards board of in
            let both = of-popped board _ _ c.in-Some.guess c.in-Some.ensures.items before.others in
            record {
              left = before.left;
              tried = before.tried;
              others = both.0;
              spare = of-pushed board _ _ c.in-Some.guess (is_ok c.push.result)
                  c.push.ensures.items before.spare both.1;
              made = before.made;
            };
        unseen = c.each.invariant.keeps.unseen;
      };
      places =
          let popped : length c.each.self.others.items ≡ length c.pop.new.self.items + 1 = ap length
          c.in-Some.ensures.items ∙ length-append c.pop.new.self.items (c.in-Some.guess ∷ []) in
          let pushed : length c.push.new.self.items ≡ length c.each.self.spare.items + 1 =
          first_of (search rules, grind (arith, common_steps)) in
          let same = c.each.invariant.places in
          omega (arith, popped, pushed, same);
      left = c.each.invariant.left;
      tried = c.each.invariant.tried;
    }

pub returns-in_default-push-clause-keeps : goal.returns-in_default-push-clause-keeps
returns-in_default-push-clause-keeps c =
    record {
      boards = λ board of.
          let before = c.each.invariant.keeps.boards board of in
          let both = of-popped board _ _ c.in-Some.guess c.in-Some.ensures.items before.others in
          record {
            left = before.left;
            tried = before.tried;
            others = both.0;
            spare = of-pushed board _ _ c.in-Some.guess
                (is_ok c.push.result) c.push.ensures.items before.spare both.1;
            made = before.made;
          };
      unseen = c.each.invariant.keeps.unseen;
    }

pub returns-clause-places : goal.returns-clause-places
returns-clause-places c =
    let none : length c.each.self.others.items ≡ 0 =
    first_of (search rules, grind (arith, common_steps)) in
    let same = c.each.invariant.places in
    omega (arith, none, same)
