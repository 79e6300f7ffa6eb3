use Rattle.std.proofs.Common.{map}
use Rattle.scmi_live.specs.Hertz.{line_in_hertz}
use Rattle.scmi_live.proofs.Joined.{AreJoined}
use Rattle.scmi_live.proofs.hertz.lines_in_hertz.Given as goal

abbrev pub invariant-loop-line : goal.invariant-loop-line
invariant-loop-line l = record {
  can : (goal.iterator-loop-line).can_next l.line-iterator;
  ends : (goal.iterator-loop-line).is_finite l.line-iterator;
  so_far : AreJoined 10 line_in_hertz (map (λ x. x.now) l.yielded) l.is_first l.made.items;
}
