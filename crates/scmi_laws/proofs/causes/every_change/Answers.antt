use Rattle.scmi_laws.proofs.OwnCauses.{own_causes}
use Rattle.scmi_laws.proofs.causes.every_change.Goals as goal

pub returns : goal.returns
returns c = record { own = own_causes }
