use Rattle.std.proofs.Common.{◌≡◌, length, take}
use Rattle.scmi_plan.specs.declared.limits.TheConstants.{AGENTS}
use Rattle.scmi_core.proofs.outboxes.Outboxes.copy_from.Given as goal

abbrev pub invariant-agents : goal.invariant-agents
invariant-agents l = (length l.self-inside.each ≡ AGENTS)
    × (take l.index l.self-inside.each ≡ take l.index l.other-inside.each)
