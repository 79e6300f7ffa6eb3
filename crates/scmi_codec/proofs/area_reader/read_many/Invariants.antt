use Rattle.std.proofs.Common.{◌≡◌, length, take}
use Rattle.scmi_codec.specs.Word.{words_at}
use Rattle.scmi_codec.proofs.area_reader.read_many.Given as goal

abbrev pub invariant-loop-i : goal.invariant-loop-i
invariant-loop-i l = (take l.i l.words ≡ words_at 0x1C l.i l.area)
    × (length l.words ≡ length l.fn.words)
