use Rattle.std.proofs.Common.{◌≡◌, length, map}
use Rattle.scmi_decode.specs.Dump.{first_full}
use Rattle.scmi_decode.proofs.lines.first_full.Given as goal

abbrev pub invariant-items : goal.invariant-items
invariant-items l = first_full (map (λ item. item.now) l.rest)
    ≡ first_full (map (λ item. item.now) l.items)

abbrev pub decreases-items : goal.decreases-items
decreases-items l = length l.rest
