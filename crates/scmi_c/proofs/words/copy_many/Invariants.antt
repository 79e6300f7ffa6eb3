use Rattle.std.proofs.Common.{◌≡◌, length, take}
use Rattle.scmi_c.proofs.words.copy_many.Given as goal

abbrev pub invariant-loop-i : goal.invariant-loop-i
invariant-loop-i l = (take l.i l.to ≡ take l.i l.from) × (length l.to ≡ length l.from)
