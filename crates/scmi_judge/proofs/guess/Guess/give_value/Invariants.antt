use Rattle.std.proofs.Common.{◌≡◌}
use Rattle.scmi_judge.proofs.guess.Guess.give_value.Given as goal

abbrev pub invariant-agents : goal.invariant-agents
invariant-agents l = l.self ≡ l.initial.self

abbrev pub decreases-agents : goal.decreases-agents
decreases-agents l = l.agent
