use Rattle.std.proofs.Common.{◌≡◌, length}
use Rattle.scmi_live.specs.Rates.{digits_behind}
use Rattle.scmi_live.proofs.rate.digits_behind.Given as goal

abbrev pub invariant-loop-text : goal.invariant-loop-text
invariant-loop-text l = digits_behind l.value l.text ≡ digits_behind l.initial.value l.initial.text

abbrev pub decreases-loop-text : goal.decreases-loop-text
decreases-loop-text l = length l.text
