use Rattle.std.proofs.Common.{length}
use Rattle.scmi_plan.specs.Board.{Board}
use Rattle.scmi_judge.specs.Window.{AreKept}
use Rattle.scmi_judge.proofs.kept.Kept.free.Given as goal

abbrev pub invariant-each : goal.invariant-each
invariant-each l = (board : Board) → AreKept board l.initial.self → AreKept board l.self

abbrev pub decreases-each : goal.decreases-each
decreases-each l = length l.self.guesses.items
