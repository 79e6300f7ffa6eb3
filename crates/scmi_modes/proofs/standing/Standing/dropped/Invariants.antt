use Rattle.std.proofs.Common.{◌≡◌, length}
use Rattle.scmi_modes.specs.Standing.{dropped_of, is_dropped_since}
use Rattle.scmi_modes.proofs.standing.Standing.dropped.Given as goal

abbrev pub invariant-agents : goal.invariant-agents
invariant-agents l =
    l.dropped.items ≡ dropped_of (is_dropped_since l.core.board l.self l.core.history)
    (length l.core.board.domains) l.index
