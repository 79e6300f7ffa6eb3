use Rattle.std.proofs.Common.{◌≡◌}
use Rattle.scmi_core.specs.Pending.{unwanted}
use Rattle.scmi_core.proofs.Mapped.{mapped_to}
use Rattle.scmi_core.proofs.pending.Pending.forget_wishes.Given as goal

abbrev pub invariant-loop-set : goal.invariant-loop-set
invariant-loop-set l = l.sets ≡ mapped_to (unwanted l.agent) l.set-index l.initial.sets
