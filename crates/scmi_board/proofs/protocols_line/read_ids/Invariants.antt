use Rattle.std.proofs.Common.{◌≡◌, drop, length, []}
use Rattle.scmi_board.specs.BoardLines.{with_id}
use Rattle.scmi_board.specs.Rows.{after_each, parts_of}
use Rattle.scmi_board.proofs.protocols_line.read_ids.Given as goal

abbrev pub invariant-loop-part : goal.invariant-loop-part
invariant-loop-part l = record {
  can : (goal.iterator-loop-part).can_next l.part-iterator;
  ends : (goal.iterator-loop-part).is_finite l.part-iterator;
  so_far : after_each with_id l.ids.items (drop (length l.yielded) (parts_of l.fn.text))
      ≡ after_each with_id [] (parts_of l.fn.text);
}
