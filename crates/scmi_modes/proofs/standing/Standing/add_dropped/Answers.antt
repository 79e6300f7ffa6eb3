use Rattle.scmi_modes.specs.Standing.{is_dropped_since}
use Rattle.scmi_modes.proofs.DroppedSince.{domain_more}
use Rattle.scmi_modes.proofs.standing.Standing.add_dropped.Goals as goal

pub domains-preserved : goal.domains-preserved
domains-preserved c =
    domain_more (is_dropped_since c.args.core.now.board c.args.self.now c.args.core.now.history)
    c.args.agent c.domains.domain _ _ _ c.domains.invariant c.in_ok-add_if_dropped.ensures
