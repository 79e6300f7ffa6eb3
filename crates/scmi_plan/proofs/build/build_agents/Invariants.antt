use Rattle.std.proofs.Common.{◌≡◌, map, take, string_bytes}
use Rattle.scmi_plan.proofs.build.build_agents.Given as goal

abbrev pub invariant-loop-agent : goal.invariant-loop-agent
invariant-loop-agent l = l.agents.items ≡ map string_bytes (take l.agent-index l.raw)
