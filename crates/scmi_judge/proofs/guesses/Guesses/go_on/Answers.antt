use Rattle.std.proofs.Common.{◌≡◌, ◌+◌, ◌∷◌, [], length, ap, ◌∙◌, rules, arith}
use Rattle.std.proofs.lemmas.Grind.{common_steps}
use Rattle.std.proofs.lemmas.List.{length-append}
use Rattle.scmi_judge.specs.Guesses.{KeepBoard}
use Rattle.scmi_judge.proofs.Boards.{keep-again, of-popped}
use Rattle.scmi_judge.proofs.guesses.Guesses.go_on.Goals as goal

pub go_on_from-requires : goal.go_on_from-requires
go_on_from-requires c =
    let board = c.requires.boards.0 in
    let before = c.each.invariant.keeps.boards board c.requires.boards.1 in
    let both = of-popped board _ _ c.in-Some.guess c.in-Some.ensures.items before.others in
    record {
      boards = (
        board,
        record {
          left = before.left;
          tried = before.tried;
          others = both.0;
          spare = before.spare;
          made = before.made;
        },
        both.1,
      );
    }

pub returns-in_err-go_on_from-clause-keeps : goal.returns-in_err-go_on_from-clause-keeps
returns-in_err-go_on_from-clause-keeps c =
    record {
      boards = λ board of.
          let before = c.each.invariant.keeps.boards board of in
          let both = of-popped board _ _ c.in-Some.guess c.in-Some.ensures.items before.others in
          c.go_on_from.ensures.keeps.boards board (record {
            left = before.left;
            tried = before.tried;
            others = both.0;
            spare = before.spare;
            made = before.made;
          });
      unseen = c.go_on_from.ensures.keeps.unseen ∙ c.each.invariant.keeps.unseen;
    }

pub put-requires : goal.put-requires
put-requires c =
    let from : KeepBoard c.args.self.now c.go_on_from.new.self =
    record {
      boards = λ board of.
          let before = c.each.invariant.keeps.boards board of in
          let both = of-popped board _ _ c.in-Some.guess c.in-Some.ensures.items before.others in
          c.go_on_from.ensures.keeps.boards board (record {
            left = before.left;
            tried = before.tried;
            others = both.0;
            spare = before.spare;
            made = before.made;
          });
      unseen = c.go_on_from.ensures.keeps.unseen ∙ c.each.invariant.keeps.unseen;
    } in
    let board = c.requires.boards.0 in
    let before = c.each.invariant.keeps.boards board c.requires.boards.1 in
    record {
      boards = (
        board,
        from.boards board c.requires.boards.1,
        c.free_place.ensures
            ∙ (of-popped board _ _ c.in-Some.guess c.in-Some.ensures.items before.others).1,
      );
    }

pub each-preserved : goal.each-preserved
each-preserved c =
    let from : KeepBoard c.args.self.now c.go_on_from.new.self =
    record {
      boards = λ board of.
          let before = c.each.invariant.keeps.boards board of in
          let both = of-popped board _ _ c.in-Some.guess c.in-Some.ensures.items before.others in
          c.go_on_from.ensures.keeps.boards board (record {
            left = before.left;
            tried = before.tried;
            others = both.0;
            spare = before.spare;
            made = before.made;
          });
      unseen = c.go_on_from.ensures.keeps.unseen ∙ c.each.invariant.keeps.unseen;
    } in
    record {
      keeps = keep-again c.args.self.now c.go_on_from.new.self c.put.new.self from
          c.put.ensures.keeps;
      places =
          let popped : length c.each.self.others.items ≡ length c.pop.new.self.items + 1 = ap length
          c.in-Some.ensures.items ∙ length-append c.pop.new.self.items (c.in-Some.guess ∷ []) in
          let gone = c.in_ok-go_on_from.ensures.places in
          let put = c.in_ok-put.ensures.places in
          let same = c.each.invariant.places in
          let others =
          ap (λ v. length v.items) (c.put.ensures.others ∙ c.go_on_from.ensures.others) in
          omega (arith, popped, gone, put, same, others);
      tried = c.put.ensures.tried ∙ c.go_on_from.ensures.tried ∙ c.each.invariant.tried;
    }

pub returns-in_err-put-clause-keeps : goal.returns-in_err-put-clause-keeps
returns-in_err-put-clause-keeps c =
    let from : KeepBoard c.args.self.now c.go_on_from.new.self =
    record {
      boards = λ board of.
          let before = c.each.invariant.keeps.boards board of in
          let both = of-popped board _ _ c.in-Some.guess c.in-Some.ensures.items before.others in
          c.go_on_from.ensures.keeps.boards board (record {
            left = before.left;
            tried = before.tried;
            others = both.0;
            spare = before.spare;
            made = before.made;
          });
      unseen = c.go_on_from.ensures.keeps.unseen ∙ c.each.invariant.keeps.unseen;
    } in
    keep-again c.args.self.now c.go_on_from.new.self c.put.new.self from c.put.ensures.keeps

pub returns-clause-places : goal.returns-clause-places
returns-clause-places c =
    let none : length c.each.self.others.items ≡ 0 =
    first_of (search rules, grind (arith, common_steps)) in
    let same = c.each.invariant.places in
    omega (arith, none, same)
