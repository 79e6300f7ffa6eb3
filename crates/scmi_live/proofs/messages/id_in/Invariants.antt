use Rattle.std.proofs.Common.{◌≡◌, map, length}
use Rattle.scmi_codec.specs.Listing.{said}
use Rattle.scmi_live.specs.Messages.{id_in}
use Rattle.scmi_live.proofs.messages.id_in.Given as goal

abbrev pub invariant-loop-rows : goal.invariant-loop-rows
invariant-loop-rows l = id_in l.name (map said l.rows) ≡ id_in l.name (map said l.initial.rows)

abbrev pub decreases-loop-rows : goal.decreases-loop-rows
decreases-loop-rows l = length l.rows
