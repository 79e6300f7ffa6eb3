use Rattle.std.proofs.Common.{◌≡◌, map, length}
use Rattle.scmi_live.specs.Flags.{flags_in, said}
use Rattle.scmi_live.proofs.flags.flags_in.Given as goal

abbrev pub invariant-loop-rows : goal.invariant-loop-rows
invariant-loop-rows l =
    flags_in l.item (map said l.rows) ≡ flags_in l.item (map said l.initial.rows)

abbrev pub decreases-loop-rows : goal.decreases-loop-rows
decreases-loop-rows l = length l.rows
