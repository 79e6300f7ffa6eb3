use Rattle.std.proofs.Common.{◌≡◌, map, length}
use Rattle.scmi_codec.specs.Fault.{fault_in, named}
use Rattle.scmi_codec.proofs.fault.fault_in.Given as goal

abbrev pub invariant-loop-rows : goal.invariant-loop-rows
invariant-loop-rows l =
    fault_in l.name (map named l.rows) ≡ fault_in l.name (map named l.initial.rows)

abbrev pub decreases-loop-rows : goal.decreases-loop-rows
decreases-loop-rows l = length l.rows
