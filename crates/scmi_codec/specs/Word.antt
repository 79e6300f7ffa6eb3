-- Words in a list of bytes, little-endian (DEN0056B, shared memory transport).
use Rattle.std.specs.Prelude.{ℕ, zero, suc, ◌+◌, List, [], ◌∷◌, ◌++◌, take, drop}
use Rattle.byteorder.specs.Endian.{little_from, little_bytes}

-- the little-endian number in the four bytes from a place on
abbrev pub word_at : ℕ → List ℕ → ℕ
word_at at area = little_from at 4 area

-- count words from a place on
unfoldable pub words_at : ℕ → ℕ → List ℕ → List ℕ
words_at at zero area = []
words_at at (suc count) area = word_at at area ∷ words_at (at + 4) count area

-- an area with a word written at a place
abbrev pub put_word : ℕ → ℕ → List ℕ → List ℕ
put_word at word area = take at area ++ little_bytes 4 word ++ drop (at + 4) area

-- an area with words written from a place on
unfoldable pub put_words : ℕ → List ℕ → List ℕ → List ℕ
put_words at [] area = area
put_words at (word ∷ words) area = put_words (at + 4) words (put_word at word area)
