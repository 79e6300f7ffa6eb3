use Rattle.std.proofs.Common.{◌≡◌, length, map}
use Rattle.scmi_check.specs.TraceLine.{has_stamp}
use Rattle.scmi_check.proofs.trace_line.has_stamp.Given as goal

abbrev pub invariant-items : goal.invariant-items
invariant-items l = has_stamp (map (λ item. item.now) l.rest)
    ≡ has_stamp (map (λ item. item.now) l.items)

abbrev pub decreases-items : goal.decreases-items
decreases-items l = length l.rest
