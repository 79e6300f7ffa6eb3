use Rattle.scmi_core.proofs.PlainHistories.{adds, asked, begins, in_order, moves}
use Rattle.scmi_core.proofs.plain_history.every_plain_history.Goals as goal

pub returns : goal.returns
returns c = record {
  history = adds;
  start = begins;
  platform = moves;
  order = in_order;
  asked = asked;
}
