use Rattle.std.proofs.Common.{take}
use Rattle.std.specs.Io.KnownBytes.{Appends}
use Rattle.scmi_text.specs.Words.{words_text}
use Rattle.scmi_text.proofs.words.write_words.Given as goal

abbrev pub invariant-words : goal.invariant-words
invariant-words g l =
    Appends (g.W.Write.contents l.fn.writer) (g.W.Write.contents l.writer)
    (words_text (take l.word-index l.words))
