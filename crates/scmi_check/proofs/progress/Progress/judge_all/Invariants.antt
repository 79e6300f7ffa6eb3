use Rattle.std.proofs.Common.{◌≡◌, ◌++◌, List, take}
use Rattle.scmi_plan.specs.Board.{Board}
use Rattle.scmi_judge.specs.declared.unseen.Unseen.{Unseen}
use Rattle.scmi_check.specs.Progress.{AreBeingJudged, FindsMore}
use Rattle.scmi_check.specs.declared.judged.Judged.{Judged}
use Rattle.scmi_check.specs.declared.record.Placed.{Placed}
use Rattle.scmi_check.proofs.progress.Progress.judge_all.Given as goal

abbrev pub invariant-each : goal.invariant-each
invariant-each g l =
    record {
      judged : (may : Unseen) (board : Board) (before : List Placed) (judged : List Judged)
          → AreBeingJudged may board before judged l.initial.self
          → FindsMore may board (before ++ take l.one-index l.entries) judged l.self
          (g.L.Listener.judged l.initial.listener) (g.L.Listener.judged l.listener);
      noted : g.L.Listener.noted l.listener ≡ g.L.Listener.noted l.initial.listener;
    }
