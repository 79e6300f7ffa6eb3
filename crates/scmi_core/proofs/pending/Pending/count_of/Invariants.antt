use Rattle.std.proofs.Common.{◌≡◌, ◌≤◌, length, take}
use Rattle.scmi_core.specs.Pending.{sets_by}
use Rattle.scmi_core.proofs.pending.Pending.count_of.Given as goal

abbrev pub invariant-loop-set : goal.invariant-loop-set
invariant-loop-set l = record {
  counted : l.count ≡ length (sets_by l.agent (take l.set-index l.sets));
  few : l.count ≤ l.set-index;
}
