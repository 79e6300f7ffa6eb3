use Rattle.std.proofs.Common.{◌≡◌, length, map}
use Rattle.scmi_decode.specs.Dump.{behind_full}
use Rattle.scmi_decode.proofs.lines.behind_full.Given as goal

abbrev pub invariant-items : goal.invariant-items
invariant-items l = behind_full (map (λ item. item.now) l.rest)
    ≡ behind_full (map (λ item. item.now) l.items)

abbrev pub decreases-items : goal.decreases-items
decreases-items l = length l.rest
