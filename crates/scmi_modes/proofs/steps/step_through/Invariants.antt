use Rattle.std.proofs.Common.{◌≡◌, length, take}
use Rattle.scmi_ends.specs.Shut.{ShowsClose}
use Rattle.scmi_modes.proofs.RunLemmas.{SoFar}
use Rattle.scmi_modes.proofs.steps.step_through.Given as goal

abbrev pub invariant-steps : goal.invariant-steps
invariant-steps g l = record {
  agents : length l.session.agents ≡ length l.fn.plan.agents;
  so_far : SoFar g.C.Channel.FULL (ShowsClose g.C.Channel.caller_view g.C.Channel.close_shows)
      l.fn.plan (take l.i l.fn.steps) l.session (g.W.Write.contents l.fn.writer)
      (g.W.Write.contents l.writer);
}
