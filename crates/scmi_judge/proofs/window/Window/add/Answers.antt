use Rattle.scmi_judge.proofs.window.Window.add.Goals as goal

pub returns-clause-boards : goal.returns-clause-boards
returns-clause-boards c = λ board of before between. c.begin.ensures.boards board (record {
  before = c.add.ensures.boards board of.before before;
  between = c.add-2.ensures.boards board of.between between;
})
