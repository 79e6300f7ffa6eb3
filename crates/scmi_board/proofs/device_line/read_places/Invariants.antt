use Rattle.std.proofs.Common.{◌≡◌, drop, length}
use Rattle.scmi_board.specs.Rows.{after_each, parts_of, with_place}
use Rattle.scmi_board.proofs.device_line.read_places.Given as goal

abbrev pub invariant-loop-part : goal.invariant-loop-part
invariant-loop-part l = record {
  can : (goal.iterator-loop-part).can_next l.part-iterator;
  ends : (goal.iterator-loop-part).is_finite l.part-iterator;
  so_far : after_each with_place l.set (drop (length l.yielded) (parts_of l.fn.text))
      ≡ after_each with_place 0 (parts_of l.fn.text);
}
