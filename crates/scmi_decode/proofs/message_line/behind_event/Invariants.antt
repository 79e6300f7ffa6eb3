use Rattle.std.proofs.Common.{◌≡◌, length, map}
use Rattle.scmi_decode.specs.MessageLine.{behind_event}
use Rattle.scmi_decode.proofs.message_line.behind_event.Given as goal

abbrev pub invariant-items : goal.invariant-items
invariant-items l = behind_event (map (λ item. item.now) l.rest)
    ≡ behind_event (map (λ item. item.now) l.items)

abbrev pub decreases-items : goal.decreases-items
decreases-items l = length l.rest
