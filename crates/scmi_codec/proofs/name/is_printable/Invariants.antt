use Rattle.std.proofs.Common.{◌≤◌, ◌<◌, ℕ, get_or}
use Rattle.scmi_codec.proofs.name.is_printable.Given as goal

abbrev pub invariant-loop-byte : goal.invariant-loop-byte
invariant-loop-byte l = record {
  printable : (k d : ℕ) → k < l.byte-index
      → (0x21 ≤ get_or l.bytes k d) × (get_or l.bytes k d ≤ 0x7E);
}
