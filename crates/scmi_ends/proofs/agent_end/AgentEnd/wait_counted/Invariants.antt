use Rattle.std.proofs.Common.{◌≡◌}
use Rattle.scmi_ends.specs.Poll.{after_polls}
use Rattle.scmi_ends.proofs.agent_end.AgentEnd.wait_counted.Given as goal

abbrev pub invariant-turns : goal.invariant-turns
invariant-turns g l = l.self ≡ record l.fn.self { caller = after_polls l.turn l.fn.self.caller }
