use Rattle.std.proofs.Common.{◌≡◌, take}
use Rattle.scmi_core.proofs.pending.Pending.is_same.Given as goal

abbrev pub invariant-sets : goal.invariant-sets
invariant-sets l = take l.index l.mine ≡ take l.index l.its
