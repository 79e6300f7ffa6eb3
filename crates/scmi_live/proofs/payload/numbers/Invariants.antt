use Rattle.std.proofs.Common.{◌≡◌, map, drop}
use Rattle.scmi_board.specs.Rows.{after_each}
use Rattle.scmi_live.specs.Payload.{numbers, with_number}
use Rattle.scmi_live.proofs.payload.numbers.Given as goal

abbrev pub invariant-items : goal.invariant-items
invariant-items l = after_each with_number l.payload.items
    (map (λ item. item.now) (drop l.item-index l.items)) ≡ numbers (map (λ item. item.now) l.items)
