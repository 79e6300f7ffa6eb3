use Rattle.scmi_c.specs.Kept.{aside_of}
use Rattle.scmi_c.proofs.Places.{none-held}
use Rattle.scmi_c.proofs.laws.nothing_held_back.Goals as goal

pub returns : goal.returns
returns c = record {
  free = λ p agent frame none held. none-held
      (aside_of p) none agent frame held.1;
  malformed = λ p agent len header held. held.1;
}
