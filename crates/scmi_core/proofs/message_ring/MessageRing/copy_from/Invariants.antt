use Rattle.std.proofs.Common.{◌≡◌, length, take}
use Rattle.scmi_core.specs.declared.outboxes.TheConstants.{OUTBOX_ROOM}
use Rattle.scmi_core.proofs.message_ring.MessageRing.copy_from.Given as goal

abbrev pub invariant-slots : goal.invariant-slots
invariant-slots l = (length l.self-inside.slots ≡ OUTBOX_ROOM)
    × (take l.place l.self-inside.slots ≡ take l.place l.other-inside.slots)
