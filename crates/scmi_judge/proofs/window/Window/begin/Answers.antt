use Rattle.scmi_judge.proofs.window.Window.begin.Goals as goal

pub returns-in_err-free-clause-boards : goal.returns-in_err-free-clause-boards
returns-in_err-free-clause-boards c = λ board of. record {
  before = c.free.ensures.boards board of.before;
  between = of.between;
}

pub returns-in_err-keep-clause-boards : goal.returns-in_err-keep-clause-boards
returns-in_err-keep-clause-boards c = λ board of. record {
  before = c.free.ensures.boards board of.before;
  between = c.keep.ensures.boards board of.between;
}

pub returns-clause-boards : goal.returns-clause-boards
returns-clause-boards c = λ board of. record {
  before = c.free.ensures.boards board of.before;
  between = c.keep.ensures.boards board of.between;
}
