use Rattle.std.proofs.Common.{◌≡◌, length}
use Rattle.scmi_board.specs.Items.{items_left}
use Rattle.scmi_text.specs.Fields.{payload_behind, payload_left}
use Rattle.scmi_text.proofs.fields.read_payload.Given as goal

abbrev pub invariant-loop-items : goal.invariant-loop-items
invariant-loop-items l = payload_behind l.payload.items (items_left l.items)
    ≡ payload_left (items_left l.fn.items)

abbrev pub decreases-loop-items : goal.decreases-loop-items
decreases-loop-items l = length l.items
