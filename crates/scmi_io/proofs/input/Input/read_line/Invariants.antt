use Rattle.std.proofs.Common.{◌≡◌, ◌+◌, ◌≤◌, length}
use Rattle.scmi_io.proofs.NextLine.{Underway}
use Rattle.scmi_io.specs.declared.input.TheConstants.{INPUT_BYTES}
use Rattle.scmi_io.proofs.input.Input.read_line.Given as goal

abbrev pub invariant-pieces : goal.invariant-pieces
invariant-pieces g l = record {
  seen : Underway l.fn.self.left l.self.left l.line.items;
  more : l.counter ≤ length l.line.items;
  few : length l.line.items ≤ INPUT_BYTES;
  count : l.self.reads + l.tries ≤ l.fn.self.reads + (INPUT_BYTES + 1);
  stops : l.fn.self.since_failure ≡ 0 → l.self.since_failure ≡ 0;
}
