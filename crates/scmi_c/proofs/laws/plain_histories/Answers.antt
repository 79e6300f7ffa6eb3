use Rattle.scmi_c.proofs.HistoryLaws.{plain_event, plain_made}
use Rattle.scmi_c.proofs.laws.plain_histories.Goals as goal

pub returns : goal.returns
returns c = record { made = plain_made; event = plain_event }
