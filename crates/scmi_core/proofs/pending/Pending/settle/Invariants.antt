use Rattle.std.proofs.Common.{◌≡◌}
use Rattle.scmi_core.specs.Pending.{settled}
use Rattle.scmi_core.proofs.Mapped.{mapped_to}
use Rattle.scmi_core.proofs.pending.Pending.settle.Given as goal

abbrev pub invariant-loop-set : goal.invariant-loop-set
invariant-loop-set l = l.sets ≡ mapped_to (settled l.clock l.rate) l.set-index l.initial.sets
