use Rattle.std.proofs.Common.{map}
use Rattle.scmi_live.specs.Hertz.{rate_in_hertz}
use Rattle.scmi_live.proofs.Joined.{AreJoined}
use Rattle.scmi_live.proofs.hertz.item_in_hertz.Given as goal

abbrev pub invariant-loop-rate : goal.invariant-loop-rate
invariant-loop-rate l = record {
  can : (goal.iterator-loop-rate).can_next l.rate-iterator;
  ends : (goal.iterator-loop-rate).is_finite l.rate-iterator;
  so_far : AreJoined 44 rate_in_hertz (map (λ x. x.now) l.yielded) l.is_first l.made.items;
}
