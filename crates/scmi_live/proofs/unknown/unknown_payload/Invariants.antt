use Rattle.std.proofs.Common.{length}
use Rattle.scmi_live.proofs.unknown.unknown_payload.Given as goal

abbrev pub decreases-loop-parts : goal.decreases-loop-parts
decreases-loop-parts l = length l.parts
