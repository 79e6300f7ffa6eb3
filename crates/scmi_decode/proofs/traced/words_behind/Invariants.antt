use Rattle.std.proofs.Common.{◌≡◌, length}
use Rattle.scmi_decode.specs.Traced.{words_behind}
use Rattle.scmi_decode.proofs.traced.words_behind.Given as goal

abbrev pub invariant-words : goal.invariant-words
invariant-words l = words_behind l.words.items l.rest ≡ words_behind l.fn.words.items l.bytes

abbrev pub decreases-words : goal.decreases-words
decreases-words l = length l.rest
