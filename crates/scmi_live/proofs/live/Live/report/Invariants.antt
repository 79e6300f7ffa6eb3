use Rattle.std.proofs.Common.{◌≡◌}
use Rattle.scmi_live.proofs.live.Live.report.Given as goal

abbrev pub invariant-notifications : goal.invariant-notifications
invariant-notifications g l = g.L.Listener.heard l.listener ≡ g.L.Listener.heard l.fn.listener
