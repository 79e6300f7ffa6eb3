use Rattle.std.proofs.Common.{ℕ, List, []}
use Rattle.scmi_plan.specs.Board.{Board}
use Rattle.scmi_judge.specs.declared.unseen.Unseen.{Unseen}
use Rattle.scmi_check.specs.RecordText.{nothing_shown}
use Rattle.scmi_check.specs.UnderWay.{IsUnderWay}
use Rattle.scmi_check.proofs.Reading.{IsReadTo}
use Rattle.scmi_check.proofs.check.check_lines.Given as goal

abbrev pub invariant-lines : goal.invariant-lines
invariant-lines g l =
    (protocols : List ℕ) (may : Unseen) (board : Board)
    → IsUnderWay may board (nothing_shown protocols) [] [] l.fn.check
    → IsReadTo (g.N.Names.means l.fn.names) protocols may board
    (g.R.Read.remaining l.fn.source) l.input.left l.number l.check
    (g.L.Listener.judged l.fn.listener) (g.L.Listener.judged l.listener)
    (g.L.Listener.noted l.fn.listener)
    (g.L.Listener.noted l.listener)
