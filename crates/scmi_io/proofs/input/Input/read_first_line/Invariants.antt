use Rattle.std.proofs.Common.{◌≡◌, ◌+◌, ◌≤◌, IfSome}
use Rattle.scmi_io.proofs.FirstLine.{IsSeen}
use Rattle.scmi_io.specs.declared.input.TheConstants.{INPUT_BYTES}
use Rattle.scmi_io.proofs.input.Input.read_first_line.Given as goal

abbrev pub invariant-bytes : goal.invariant-bytes
invariant-bytes g l = record {
  seen : IfSome l.fn.self.left (λ input. IsSeen input l.counter l.self.left l.kept.items);
  count : l.self.reads + l.tries ≤ l.fn.self.reads + (INPUT_BYTES + 1);
  stops : l.fn.self.since_failure ≡ 0 → l.self.since_failure ≡ 0;
}
