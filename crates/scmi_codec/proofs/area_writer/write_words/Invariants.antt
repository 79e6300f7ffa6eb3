use Rattle.std.proofs.Common.{◌≡◌, take}
use Rattle.scmi_codec.specs.Word.{put_words}
use Rattle.scmi_codec.proofs.area_writer.write_words.Given as goal

abbrev pub invariant-loop-i : goal.invariant-loop-i
invariant-loop-i l = l.area ≡ put_words 0x1C (take l.i l.words) l.fn.area
