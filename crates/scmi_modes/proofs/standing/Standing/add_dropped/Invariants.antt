use Rattle.std.proofs.Common.{◌≡◌, ◌++◌}
use Rattle.scmi_modes.specs.Standing.{dropped_for, is_dropped_since}
use Rattle.scmi_modes.proofs.standing.Standing.add_dropped.Given as goal

abbrev pub invariant-domains : goal.invariant-domains
invariant-domains l =
    l.dropped.items ≡ l.fn.dropped.items
    ++ dropped_for (is_dropped_since l.core.board l.self l.core.history) l.agent l.domain
