use Rattle.std.proofs.Common.{◌≡◌, ◌+◌, ◌++◌, ◌∷◌, [], length, reverse, sym, ap, ◌∙◌, subst, rules, arith}
use Rattle.std.proofs.lemmas.Grind.{common_steps}
use Rattle.std.proofs.lemmas.List.{append-nil, length-append}
use Rattle.scmi_judge.specs.Exact.{AreGiven}
use Rattle.scmi_judge.specs.Guesses.{IsGiven}
use Rattle.scmi_judge.proofs.Boards.{of-popped}
use Rattle.scmi_judge.proofs.Different.{moved-behind}
use Rattle.scmi_judge.proofs.Exactness.{given-step}
use Rattle.scmi_judge.proofs.guesses.Guesses.give.Goals as goal

pub give_by-requires : goal.give_by-requires
give_by-requires c =
    let board = c.requires.boards.0 in
    let before = c.each.invariant.keeps.boards board c.requires.boards.1 in
    let both = of-popped board _ _ c.in-Some.guess c.in-Some.ensures.items before.tried in
    record {
      boards = (
        board,
        record {
          left = before.left;
          tried = both.0;
          others = before.others;
          spare = before.spare;
          made = before.made;
        },
        both.1,
      );
    }

pub each-preserved : goal.each-preserved
each-preserved c =
    record {
      keeps = record {
        boards = λ board of.
            let before = c.each.invariant.keeps.boards board of in
            let both = of-popped board _ _ c.in-Some.guess c.in-Some.ensures.items before.tried in
            c.give_by.ensures.keeps.boards board (record {
              left = before.left;
              tried = both.0;
              others = before.others;
              spare = before.spare;
              made = before.made;
            });
        unseen = c.give_by.ensures.keeps.unseen ∙ c.each.invariant.keeps.unseen;
      };
      apart = λ none.
          let both = c.in_ok-give_by.ensures.apart none in
          ap (λ xs. xs ++ reverse c.give_by.new.self.tried.items) both.1
          ∙ ap (λ v. (c.each.self.others.items ++ c.in-Some.guess ∷ []) ++ reverse v.items)
          c.give_by.ensures.tried
          ∙ moved-behind c.each.self.others.items c.pop.new.self.items c.each.self.tried.items
          c.in-Some.guess c.in-Some.ensures.items ∙ c.each.invariant.apart both.0;
      different = c.in_ok-give_by.ensures.different c.each.invariant.different;
      places =
          let popped : length c.each.self.tried.items ≡ length c.pop.new.self.items + 1 = ap length
          c.in-Some.ensures.items ∙ length-append c.pop.new.self.items (c.in-Some.guess ∷ []) in
          let given = c.in_ok-give_by.ensures.places in
          let same = c.each.invariant.places in
          omega (arith, popped, given, same);
      given = subst (λ v. AreGiven c.args.self.now.unseen c.args.self.now.tried.items
          c.args.entry.now c.give_by.new.self.left.items v.items) (sym c.give_by.ensures.tried)
          (given-step c.args.self.now.unseen c.args.self.now.tried.items c.each.self.left.items
          c.each.self.tried.items c.pop.new.self.items c.args.entry.now c.in-Some.guess
          c.each.invariant.given c.in-Some.ensures.items
          c.give_by.new.self.left.items (subst (λ r. IsGiven r c.in-Some.guess c.args.entry.now
          c.each.self.left.items c.give_by.new.self.left.items) c.each.invariant.keeps.unseen
          c.in_ok-give_by.ensures.given));
    }

pub returns-in_err-give_by-clause-keeps : goal.returns-in_err-give_by-clause-keeps
returns-in_err-give_by-clause-keeps c =
    record {
      boards = λ board of.
          let before = c.each.invariant.keeps.boards board of in
          let both = of-popped board _ _ c.in-Some.guess c.in-Some.ensures.items before.tried in
          c.give_by.ensures.keeps.boards board (record {
            left = before.left;
            tried = both.0;
            others = before.others;
            spare = before.spare;
            made = before.made;
          });
      unseen = c.give_by.ensures.keeps.unseen ∙ c.each.invariant.keeps.unseen;
    }

pub returns-clause-different : goal.returns-clause-different
returns-clause-different c = c.each.invariant.different

pub returns-clause-places : goal.returns-clause-places
returns-clause-places c =
    let none : length c.pop.new.self.items ≡ length c.each.self.tried.items =
    first_of (search rules, grind (arith, common_steps)) in
    let same = c.each.invariant.places in
    omega (arith, none, same)

pub returns-clause-apart : goal.returns-clause-apart
returns-clause-apart c none =
    let empty : c.each.self.tried.items ≡ [] =
    first_of (search rules, grind (arith, common_steps)) in
    sym (append-nil c.each.self.others.items) ∙ ap (λ xs. c.each.self.others.items ++ reverse xs)
    (sym empty) ∙ c.each.invariant.apart none
