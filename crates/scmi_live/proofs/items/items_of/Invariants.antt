use Rattle.std.proofs.Common.{◌≡◌, map, length}
use Rattle.scmi_board.specs.Items.{items_left, items_of}
use Rattle.scmi_live.proofs.ItemLists.{items_behind}
use Rattle.scmi_live.proofs.items.items_of.Given as goal

abbrev pub invariant-loop-items : goal.invariant-loop-items
invariant-loop-items l = items_behind (map (λ item. item.now) l.all.items) (items_left l.items)
    ≡ items_of l.text

abbrev pub decreases-loop-items : goal.decreases-loop-items
decreases-loop-items l = length l.items
