use Rattle.std.proofs.Common.{◌≡◌}
use Rattle.scmi_ends.specs.Shut.{ShowsClose}
use Rattle.scmi_board.specs.BoardLines.{described}
use Rattle.scmi_live.proofs.Answered.{AreAnswered}
use Rattle.scmi_live.proofs.UnderWay.{IsUnderWay}
use Rattle.scmi_live.proofs.run.run_live.Given as goal

abbrev pub invariant-lines : goal.invariant-lines
invariant-lines g l = record {
  way : IsUnderWay g.C.Channel.FULL (ShowsClose g.C.Channel.caller_view g.C.Channel.close_shows)
      (described l.fn.board) l.fn.input.left l.input.left l.live (g.L.Listener.heard l.fn.listener)
      (g.L.Listener.heard l.listener);
  answered : AreAnswered g.C.Channel.FULL (ShowsClose g.C.Channel.caller_view
      g.C.Channel.close_shows) (described l.fn.board) l.fn.input.left l.input.left l.number l.live
      (g.L.Listener.heard l.fn.listener) (g.L.Listener.heard l.listener);
  stops : l.fn.input.since_failure ≡ 0 → l.input.since_failure ≡ 0;
}
