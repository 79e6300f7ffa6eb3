use Rattle.std.proofs.Common.{◌≡◌, map, length}
use Rattle.scmi_codec.specs.Listing.{protocol_said}
use Rattle.scmi_live.specs.Messages.{protocol_in}
use Rattle.scmi_live.proofs.messages.protocol_in.Given as goal

abbrev pub invariant-loop-rows : goal.invariant-loop-rows
invariant-loop-rows l = protocol_in l.name (map protocol_said l.rows)
    ≡ protocol_in l.name (map protocol_said l.initial.rows)

abbrev pub decreases-loop-rows : goal.decreases-loop-rows
decreases-loop-rows l = length l.rows
