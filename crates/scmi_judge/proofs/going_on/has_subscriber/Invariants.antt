use Rattle.scmi_judge.proofs.going_on.has_subscriber.Given as goal

abbrev pub decreases-agents : goal.decreases-agents
decreases-agents l = l.agent
