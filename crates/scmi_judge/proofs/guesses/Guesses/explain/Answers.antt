use Rattle.std.proofs.Common.{◌∙◌}
use Rattle.scmi_judge.proofs.Boards.{keep-again}
use Rattle.scmi_judge.proofs.guesses.Guesses.explain.Goals as goal

pub is_explained-requires : goal.is_explained-requires
is_explained-requires c =
    let board = c.requires.boards.0 in
    record {
      boards = (
        board,
        c.entries.invariant.keeps.boards board c.requires.boards.1,
        c.requires.boards.2,
      );
    }

pub returns-in_err-is_explained-clause-keeps : goal.returns-in_err-is_explained-clause-keeps
returns-in_err-is_explained-clause-keeps c = keep-again c.args.self.now c.entries.self
    c.is_explained.new.self c.entries.invariant.keeps c.is_explained.ensures.keeps

pub returns-then-branch-clause-keeps : goal.returns-then-branch-clause-keeps
returns-then-branch-clause-keeps c = keep-again c.args.self.now c.entries.self
    c.is_explained.new.self c.entries.invariant.keeps c.is_explained.ensures.keeps

pub entries-preserved : goal.entries-preserved
entries-preserved c = record {
  keeps = keep-again c.args.self.now c.entries.self c.is_explained.new.self
      c.entries.invariant.keeps c.is_explained.ensures.keeps;
  places = c.in_ok-is_explained.ensures.places ∙ c.entries.invariant.places;
}

pub come_again-requires : goal.come_again-requires
come_again-requires c =
    let board = c.requires.boards.0 in
    record {
      boards = (
        board,
        c.entries.invariant.keeps.boards board c.requires.boards.1,
        c.requires.boards.2,
      );
    }

pub returns-in_err-come_again-clause-keeps : goal.returns-in_err-come_again-clause-keeps
returns-in_err-come_again-clause-keeps c = keep-again c.args.self.now c.entries.self
    c.come_again.new.self c.entries.invariant.keeps c.come_again.ensures.keeps

pub returns-clause-keeps : goal.returns-clause-keeps
returns-clause-keeps c = keep-again c.args.self.now c.entries.self
    c.come_again.new.self c.entries.invariant.keeps c.come_again.ensures.keeps
