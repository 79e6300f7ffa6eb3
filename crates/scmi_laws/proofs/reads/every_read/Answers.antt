use Rattle.scmi_laws.proofs.Quiet.{isolation, read}
use Rattle.scmi_laws.proofs.Harmless.{complete, harmless}
use Rattle.scmi_laws.proofs.reads.every_read.Goals as goal

pub returns : goal.returns
returns c = record {
  harmless = harmless;
  complete = complete;
  read = read;
  isolation = isolation;
}
