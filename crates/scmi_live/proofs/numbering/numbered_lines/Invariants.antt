use Rattle.std.proofs.Common.{map}
use Rattle.scmi_plan.specs.RawPlan.{asked_board}
use Rattle.scmi_live.proofs.Numbers.{AreSoFar}
use Rattle.scmi_live.proofs.numbering.numbered_lines.Given as goal

abbrev pub invariant-loop-line : goal.invariant-loop-line
invariant-loop-line l = record {
  can : (goal.iterator-loop-line).can_next l.line-iterator;
  ends : (goal.iterator-loop-line).is_finite l.line-iterator;
  so_far : AreSoFar (asked_board l.board) l.agents
      (map (λ x. x.now) l.yielded) l.is_first l.made.items;
}
