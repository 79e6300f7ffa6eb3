use Rattle.scmi_ends.proofs.LifeLists.{life_agrees}
use Rattle.scmi_ends.proofs.lives.every_life.Goals as goal

pub returns : goal.returns
returns c = record { life = life_agrees }
