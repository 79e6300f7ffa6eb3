use Rattle.std.proofs.Common.{◌≡◌, length, map}
use Rattle.scmi_decode.specs.Event.{value_of}
use Rattle.scmi_decode.proofs.event.value_of.Given as goal

abbrev pub invariant-items : goal.invariant-items
invariant-items l = value_of l.name (map (λ item. item.now) l.rest)
    ≡ value_of l.name (map (λ item. item.now) l.items)

abbrev pub decreases-items : goal.decreases-items
decreases-items l = length l.rest
