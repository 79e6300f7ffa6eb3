use Rattle.std.proofs.Common.{◌≡◌, length, map}
use Rattle.scmi_check.specs.TraceLine.{lost_in}
use Rattle.scmi_check.proofs.trace_line.lost_in.Given as goal

abbrev pub invariant-items : goal.invariant-items
invariant-items l =
    lost_in (map (λ item. item.now) l.rest) ≡ lost_in (map (λ item. item.now) l.items)

abbrev pub decreases-items : goal.decreases-items
decreases-items l = length l.rest
