use Rattle.std.proofs.Common.{ap, ◌∙◌}
use Rattle.scmi_judge.specs.declared.guess.Guess.{Guess}
use Rattle.scmi_judge.proofs.Boards.{of-their}
use Rattle.scmi_judge.proofs.guesses.Guesses.go_on_from.Goals as goal

pub returns-clause-keeps : goal.returns-clause-keeps
returns-clause-keeps c =
    record {
      boards = λ board of.
          let is = of-their c.args.self.now c.args.guess.now c.requires.boards board of in
          let first = c.keep_new.ensures.keeps.boards board
          (record {
            left = of.left;
            tried = of.tried;
            others = of.others;
            spare = of.spare;
            made =
                c.pass.ensures ∙ ap (λ (g : Guess). g.platform.board) c.copy_from.ensures ∙ is;
          }) in
          c.keep_new-2.ensures.keeps.boards board
          (record {
            left = first.left;
            tried = first.tried;
            others = first.others;
            spare = first.spare;
            made = c.give_value.ensures
                ∙ ap (λ (g : Guess). g.platform.board) c.copy_from-2.ensures ∙ is;
          });
      unseen = c.keep_new-2.ensures.keeps.unseen ∙ c.keep_new.ensures.keeps.unseen;
    }

pub returns-then-not-give_value-clause-keeps : goal.returns-then-not-give_value-clause-keeps
returns-then-not-give_value-clause-keeps c =
    record {
      boards = λ board of.
          let is = of-their c.args.self.now c.args.guess.now c.requires.boards board of in
          let first = c.keep_new.ensures.keeps.boards board (record {
            left = of.left;
            tried = of.tried;
            others = of.others;
            spare = of.spare;
            made = c.pass.ensures ∙ ap (λ (g : Guess). g.platform.board) c.copy_from.ensures ∙ is;
          }) in
          record {
            left = first.left;
            tried = first.tried;
            others = first.others;
            spare = first.spare;
            made = c.give_value.ensures
                ∙ ap (λ (g : Guess). g.platform.board) c.copy_from-2.ensures ∙ is;
          };
      unseen = c.keep_new.ensures.keeps.unseen;
    }
