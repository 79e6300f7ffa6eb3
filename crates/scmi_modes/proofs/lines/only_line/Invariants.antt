use Rattle.std.proofs.Common.{◌≡◌, filter, map, option_to_list}
use Rattle.std.specs.Option.{option_copied}
use Rattle.scmi_board.specs.Lines.{is_significant}
use Rattle.scmi_modes.proofs.lines.only_line.Given as goal

abbrev pub invariant-loop-line : goal.invariant-loop-line
invariant-loop-line l = record {
  can : (goal.iterator-loop-line).can_next l.line-iterator;
  ends : (goal.iterator-loop-line).is_finite l.line-iterator;
  so_far : option_to_list (option_copied l.found)
      ≡ filter is_significant (map (λ x. x.now) l.yielded);
}
