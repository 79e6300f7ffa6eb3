use Rattle.scmi_laws.proofs.Reaching.{reaches}
use Rattle.scmi_laws.proofs.Views.{answers}
use Rattle.scmi_laws.proofs.others.every_other_agent.Goals as goal

pub returns : goal.returns
returns c = record { answers = answers; reaches = reaches }
