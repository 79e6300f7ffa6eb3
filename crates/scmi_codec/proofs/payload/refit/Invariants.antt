use Rattle.std.proofs.Common.{◌-◌, ◌≤◌, length}
use Rattle.scmi_codec.proofs.payload.refit.Given as goal

abbrev pub decreases-loop-payload : goal.decreases-loop-payload
decreases-loop-payload l = length l.payload.items

abbrev pub invariant-loop-payload-2 : goal.invariant-loop-payload-2
invariant-loop-payload-2 l = length l.payload.items ≤ l.fn.count

abbrev pub decreases-loop-payload-2 : goal.decreases-loop-payload-2
decreases-loop-payload-2 l = l.fn.count - length l.payload.items
