use Rattle.std.proofs.Common.{ap, sym, ◌∙◌}
use Rattle.scmi_judge.specs.Judging.{Judging}
use Rattle.scmi_judge.proofs.judge.Judge.add_look_back.Goals as goal

pub invariant_of-self : goal.invariant_of-self
invariant_of-self c =
    let board = sym (ap (λ (j : Judging). j.board) c.self.view_is) in
    record {
      boards = c.self.invariant.boards;
      window = c.add.ensures.boards c.self.inside.guesses.made.platform.board
          c.self.invariant.window (c.in_ok-before.ensures.board ∙ c.requires.before ∙ board)
          (c.in_ok-between.ensures.board ∙ c.requires.between ∙ board);
      tried = c.self.invariant.tried;
      others = c.self.invariant.others;
    }

pub invariant_of-self-2 : goal.invariant_of-self-2
invariant_of-self-2 c =
    let board = sym (ap (λ (j : Judging). j.board) c.self.view_is) in
    record {
      boards = c.self.invariant.boards;
      window = c.add.ensures.boards c.self.inside.guesses.made.platform.board
          c.self.invariant.window (c.in_ok-before.ensures.board ∙ c.requires.before ∙ board)
          (c.in_ok-between.ensures.board ∙ c.requires.between ∙ board);
      tried = c.self.invariant.tried;
      others = c.self.invariant.others;
    }
