use Rattle.std.proofs.Common.{◌≡◌, length, take}
use Rattle.scmi_ends.specs.Shut.{ShowsClose}
use Rattle.scmi_plan.specs.RawPlan.{asked_board}
use Rattle.scmi_chart.proofs.SoFar.{SoFar}
use Rattle.scmi_chart.proofs.threads.draw_steps.Given as goal

abbrev pub invariant-steps : goal.invariant-steps
invariant-steps g l = record {
  agents : length l.session.agents ≡ length l.fn.plan.agents;
  so_far : SoFar g.C.Channel.FULL (ShowsClose g.C.Channel.caller_view g.C.Channel.close_shows)
      l.fn.plan (asked_board l.fn.board) (take l.i l.fn.steps) l.session l.recorder;
}
