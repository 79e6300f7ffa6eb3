use Rattle.std.proofs.Common.{◌≡◌, length, map}
use Rattle.scmi_decode.specs.WideRow.{has_more_digits}
use Rattle.scmi_decode.proofs.wide_row.has_more_digits.Given as goal

abbrev pub invariant-items : goal.invariant-items
invariant-items l = has_more_digits l.left (map (λ item. item.now) l.rest)
    ≡ has_more_digits l.most (map (λ item. item.now) l.items)

abbrev pub decreases-items : goal.decreases-items
decreases-items l = length l.rest
