use Rattle.std.proofs.Common.{◌≡◌, Some}
use Rattle.std.proofs.lemmas.List.Elements.{All-pop}
use Rattle.scmi_judge.specs.declared.guess.Guess.{Guess}
use Rattle.scmi_judge.proofs.guesses.Guesses.keep_made.Goals as goal

pub leave-requires : goal.leave-requires
leave-requires c =
    let board = c.requires.boards.0 in
    let of = c.requires.boards.1 in
    let both = All-pop (λ (g : Guess). g.platform.board ≡ board) c.args.self.now.spare.items
    c.pop.new.self.items (Some c.in-Some.place) c.in-Some.ensures.items of.spare in
    record {
      boards = (
        board,
        record {
          left = of.left;
          tried = of.tried;
          others = of.others;
          spare = both.0;
          made = of.made;
        },
        both.1,
      );
    }

pub returns-clause-keeps : goal.returns-clause-keeps
returns-clause-keeps c =
    record {
      boards = λ board of.
          let both = All-pop (λ (g : Guess). g.platform.board ≡ board) c.args.self.now.spare.items
          c.pop.new.self.items (Some c.in-Some.place) c.in-Some.ensures.items of.spare in
          c.leave.ensures.keeps.boards board (record {
            left = of.left;
            tried = of.tried;
            others = of.others;
            spare = both.0;
            made = of.made;
          });
      unseen = c.leave.ensures.keeps.unseen;
    }
