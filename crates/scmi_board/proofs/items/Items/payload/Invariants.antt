use Rattle.std.proofs.Common.{length}
use Rattle.scmi_board.proofs.items.Items.payload.Given as goal

abbrev pub decreases-loop-self : goal.decreases-loop-self
decreases-loop-self l = length l.self
