use Rattle.std.proofs.Common.{◌≡◌, None, map, length}
use Rattle.scmi_codec.specs.Listing.{protocol_said}
use Rattle.scmi_live.specs.Messages.{only_in}
use Rattle.scmi_live.proofs.messages.only_in.Given as goal

abbrev pub invariant-loop-rows : goal.invariant-loop-rows
invariant-loop-rows l = only_in l.name l.found (map protocol_said l.rows)
    ≡ only_in l.name None (map protocol_said l.initial.rows)

abbrev pub decreases-loop-rows : goal.decreases-loop-rows
decreases-loop-rows l = length l.rows
