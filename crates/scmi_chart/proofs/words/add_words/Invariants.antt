use Rattle.std.proofs.Common.{◌≡◌, ◌++◌, take}
use Rattle.scmi_chart.specs.Words.{spaced_text}
use Rattle.scmi_chart.proofs.words.add_words.Given as goal

abbrev pub invariant-words : goal.invariant-words
invariant-words l = l.text.items ≡ l.fn.text.items ++ spaced_text (take l.word-index l.words)
