use Rattle.std.proofs.Common.{◌≡◌, length, take}
use Rattle.scmi_codec.proofs.payload.copy_words.Given as goal

abbrev pub invariant-loop-i : goal.invariant-loop-i
invariant-loop-i l = (take l.i l.own ≡ take l.i l.words) × (length l.own ≡ length l.words)
