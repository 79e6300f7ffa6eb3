use Rattle.std.proofs.Common.{◌<◌, length, ap, ◌∙◌, rules, arith}
use Rattle.scmi_judge.proofs.Boards.{keep-again, of-one}
use Rattle.scmi_judge.proofs.guesses.Guesses.go_back.Goals as goal

pub put_back-requires : goal.put_back-requires
put_back-requires c =
    let board = c.requires.boards.0 in
    let guesses = c.args.guesses.now in
    let less : c.each.guess-index < length guesses = first_of (search rules, omega arith) in
    record {
      boards = (
        board,
        c.each.invariant.keeps.boards board c.requires.boards.1,
        of-one board guesses c.each.guess-index c.guess-item.result c.guess-item.is less
            c.requires.boards.2,
      );
    }

pub each-preserved : goal.each-preserved
each-preserved c =
    let before = c.each.invariant in
    record {
      keeps = keep-again c.args.self.now c.each.self c.put_back.new.self before.keeps
          c.put_back.ensures.keeps;
      tried = ap (λ v. v.items) c.put_back.ensures.tried ∙ before.tried;
      others = ap (λ v. v.items) c.put_back.ensures.others ∙ before.others;
      places = c.in_ok-put_back.ensures.places ∙ before.places;
    }

pub returns-in_err-put_back-clause-keeps : goal.returns-in_err-put_back-clause-keeps
returns-in_err-put_back-clause-keeps c = keep-again c.args.self.now c.each.self
    c.put_back.new.self c.each.invariant.keeps c.put_back.ensures.keeps
