use Rattle.scmi_judge.proofs.window.Window.new.Goals as goal

pub returns : goal.returns
returns c = λ board. record {
  before = c.new.ensures board;
  between = c.new-3.ensures board;
}
