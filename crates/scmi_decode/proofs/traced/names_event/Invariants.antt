use Rattle.std.proofs.Common.{◌≡◌, length, map}
use Rattle.scmi_decode.specs.Traced.{names_event}
use Rattle.scmi_decode.proofs.traced.names_event.Given as goal

abbrev pub invariant-items : goal.invariant-items
invariant-items l = names_event (map (λ item. item.now) l.rest)
    ≡ names_event (map (λ item. item.now) l.items)

abbrev pub decreases-items : goal.decreases-items
decreases-items l = length l.rest
