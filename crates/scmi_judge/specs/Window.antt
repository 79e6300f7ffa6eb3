-- Guesses that were kept, to go back to.
use Rattle.scmi_plan.specs.Board.{Board}
use Rattle.scmi_judge.specs.Exact.{IsOfBoard}
use Rattle.scmi_judge.specs.declared.kept.Kept.{Kept}
use Rattle.scmi_judge.specs.declared.window.Window.{Window}

-- guesses that are kept are platforms of this board
pub record AreKept (board : Board) (k : Kept) : Type 0 where
  pub guesses : IsOfBoard board k.guesses.items
  pub spare : IsOfBoard board k.spare.items

-- the same of all that a window keeps
pub record IsOfWindow (board : Board) (w : Window) : Type 0 where
  pub before : AreKept board w.before
  pub between : AreKept board w.between
