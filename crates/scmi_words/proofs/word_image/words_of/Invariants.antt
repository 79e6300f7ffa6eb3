use Rattle.std.proofs.Common.{◌≡◌, ℕ, ◌<◌, slice_index, length}
use mathlib.Core.Option.{some}
use lib.ListN.{get_elem?}
use Rattle.std.specs.Mem.Slots.{slots_items}
use Rattle.scmi_words.specs.declared.layout.TheConstants.{TABLE_WORDS}
use Rattle.scmi_words.proofs.word_image.words_of.Given as goal

abbrev pub invariant-loop-i : goal.invariant-loop-i
invariant-loop-i l = (length l.words ≡ TABLE_WORDS)
    × ((k : ℕ) → k < l.i → get_elem? (slots_items l.closed.words) k ≡ some (slice_index l.words k))
