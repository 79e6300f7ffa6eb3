use Rattle.std.proofs.Common.{◌≡◌, take}
use Rattle.scmi_core.proofs.message_ring.MessageRing.is_same.Given as goal

abbrev pub invariant-messages : goal.invariant-messages
invariant-messages l = take l.index l.self ≡ take l.index l.other
