use Rattle.std.proofs.Common.{◌≡◌, ◌%◌, ◌^◌, ◌≤◌, ◌-◌, take, drop, replicate, slice_index}
use Rattle.scmi_codec.specs.Word.{put_word, put_words}
use Rattle.scmi_codec.specs.declared.area.TheConstants.{AREA_BYTES}
use Rattle.scmi_words.proofs.word_image.WordImage.area.Given as goal

abbrev pub invariant-loop-i : goal.invariant-loop-i
invariant-loop-i l = (1 ≤ l.i) × (l.area ≡ put_words 0x10 (take (l.i - 1) (drop 1 l.self.words))
    (put_word 0x04 (slice_index l.self.words 0 % 2 ^ 32) (replicate AREA_BYTES 0)))
