use Rattle.std.proofs.Common.{length, ◌-◌, refl}
use Rattle.scmi_codec.proofs.WordLemmas.{word_at-zeros}
use Rattle.scmi_codec.proofs.name.four_words.Goals as goal

pub returns : goal.returns
returns c =
    let bytes = c.args.bytes.now in
    rw (
      c.read_word.ensures,
      c.read_word-2.ensures,
      c.read_word-3.ensures,
      c.read_word-4.ensures,
      c.padded_bytes-padded.ensures,
      word_at-zeros 0 (16 - length bytes) bytes,
      word_at-zeros 4 (16 - length bytes) bytes,
      word_at-zeros 8 (16 - length bytes) bytes,
      word_at-zeros 12 (16 - length bytes) bytes,
    ) refl
