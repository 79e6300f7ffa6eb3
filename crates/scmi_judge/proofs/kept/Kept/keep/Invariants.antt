use Rattle.scmi_plan.specs.Board.{Board}
use Rattle.scmi_judge.specs.Window.{AreKept}
use Rattle.scmi_judge.proofs.kept.Kept.keep.Given as goal

abbrev pub invariant-each : goal.invariant-each
invariant-each l = (board : Board) → AreKept board l.fn.self → AreKept board l.self
