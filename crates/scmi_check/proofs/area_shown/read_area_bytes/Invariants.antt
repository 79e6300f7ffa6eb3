use Rattle.std.proofs.Common.{◌≡◌, length}
use Rattle.scmi_board.specs.Items.{items_left}
use Rattle.scmi_check.specs.AreaShown.{area_behind, area_left}
use Rattle.scmi_check.proofs.area_shown.read_area_bytes.Given as goal

abbrev pub invariant-loop-items : goal.invariant-loop-items
invariant-loop-items l = area_behind l.area.items (items_left l.items)
    ≡ area_left (items_left l.fn.items)

abbrev pub decreases-loop-items : goal.decreases-loop-items
decreases-loop-items l = length l.items
