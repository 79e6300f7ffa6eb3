use Rattle.scmi_c.proofs.HistoryLaws.{made_driven, refused_driven, unreported_driven}
use Rattle.scmi_c.proofs.laws.every_driver.Goals as goal

pub returns : goal.returns
returns c = record { made = made_driven; unreported = unreported_driven; refused = refused_driven }
