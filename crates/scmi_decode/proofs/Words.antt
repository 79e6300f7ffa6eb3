-- The payload words of an event, one after the other.
use Rattle.std.proofs.Common.{◌≡◌, ℕ, ◌<◌, ◌≤◌, List, [], ◌∷◌, ◌++◌, length, drop, slice_index, arith}
use Rattle.scmi_codec.specs.Word.{word_at}
use Rattle.scmi_codec.specs.declared.payload.TheConstants.{PAYLOAD_WORDS}
use Rattle.scmi_decode.specs.Traced.{words_behind}

-- one word more
pub words_more : (words bytes : List ℕ) → 4 ≤ length bytes → length words < PAYLOAD_WORDS
    → words_behind words bytes ≡ words_behind (words ++ word_at 0 (slice_index bytes 0
    ∷ slice_index bytes 1 ∷ slice_index bytes 2 ∷ slice_index bytes 3 ∷ []) ∷ []) (drop 4 bytes)
words_more words [] long few = grind arith
words_more words (a ∷ []) long few = grind arith
words_more words (a ∷ b ∷ []) long few = grind arith
words_more words (a ∷ b ∷ c ∷ []) long few = grind arith
words_more words (a ∷ b ∷ c ∷ d ∷ bytes) long few = grind arith
