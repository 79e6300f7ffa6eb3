use Rattle.std.proofs.Common.{◌≤◌, ◌<◌, ℕ, get_or}
use Rattle.scmi_codec.proofs.name.is_text.Given as goal

abbrev pub invariant-loop-byte : goal.invariant-loop-byte
invariant-loop-byte l = record {
  text : (k d : ℕ) → k < l.byte-index → (0x20 ≤ get_or l.bytes k d) × (get_or l.bytes k d ≤ 0x7E);
}
