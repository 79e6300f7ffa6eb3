-- The limit of an agent's outbox and pending sets that code and definitions share, as the profile
-- has it.
use Rattle.std.proofs.Common.{◌≡◌, refl}
use Rattle.scmi_core.specs.declared.outboxes.TheConstants.{OUTBOX_ROOM}

outbox_room : OUTBOX_ROOM ≡ 16
outbox_room = refl
