use Rattle.std.proofs.Common.{◌≡◌, take}
use Rattle.scmi_core.proofs.outboxes.Outboxes.is_same.Given as goal

abbrev pub invariant-agents : goal.invariant-agents
invariant-agents l = take l.index l.self-inside.each ≡ take l.index l.other-inside.each
