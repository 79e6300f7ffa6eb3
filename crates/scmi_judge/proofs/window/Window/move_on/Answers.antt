use Rattle.std.proofs.Common.{sym, subst}
use Rattle.scmi_judge.specs.Window.{AreKept}
use Rattle.scmi_judge.proofs.window.Window.move_on.Goals as goal

pub returns-in_err-keep-clause-boards : goal.returns-in_err-keep-clause-boards
returns-in_err-keep-clause-boards c = λ board of. record {
  before = subst (AreKept board) (sym c.swap.ensures.x_after) of.between;
  between = c.keep.ensures.boards board
      (subst (AreKept board) (sym c.swap.ensures.y_after) of.before);
}

pub returns-clause-boards : goal.returns-clause-boards
returns-clause-boards c = λ board of. record {
  before = subst (AreKept board) (sym c.swap.ensures.x_after) of.between;
  between = c.keep.ensures.boards board
      (subst (AreKept board) (sym c.swap.ensures.y_after) of.before);
}
