-- Payloads of a few words, read and written word by word.
use Rattle.std.proofs.Common.{◌≡◌, ℕ, List, [], ◌∷◌, length, get_or, slice_set, refl, arith}
use Rattle.scmi_codec.specs.Word.{word_at, words_at, put_word, put_words}

pub read-none : (words area : List ℕ) → length words ≡ 0 → words ≡ words_at 0x1C (length words) area
unfolding words_at
read-none [] area e = refl
read-none (x ∷ words) area e = absurd (omega arith)

pub read-one : (words area : List ℕ) → length words ≡ 1
    → slice_set words 0 (word_at 0x1C area) ≡ words_at 0x1C (length words) area
unfolding words_at
read-one [] area e = absurd (omega arith)
read-one (x ∷ []) area e = refl
read-one (x ∷ y ∷ words) area e = absurd (omega arith)

pub read-two : (words area : List ℕ) → length words ≡ 2
    → slice_set (slice_set words 0 (word_at 0x1C area)) 1 (word_at 0x20 area)
    ≡ words_at 0x1C (length words) area
unfolding words_at
read-two [] area e = absurd (omega arith)
read-two (x ∷ []) area e = absurd (omega arith)
read-two (x ∷ y ∷ []) area e = refl
read-two (x ∷ y ∷ z ∷ words) area e = absurd (omega arith)

pub read-three : (words area : List ℕ) → length words ≡ 3
    → slice_set (slice_set (slice_set words 0 (word_at 0x1C area)) 1 (word_at 0x20 area)) 2
    (word_at 0x24 area)
    ≡ words_at 0x1C (length words) area
unfolding words_at
read-three [] area e = absurd (omega arith)
read-three (x ∷ []) area e = absurd (omega arith)
read-three (x ∷ y ∷ []) area e = absurd (omega arith)
read-three (x ∷ y ∷ z ∷ []) area e = refl
read-three (x ∷ y ∷ z ∷ w ∷ words) area e = absurd (omega arith)

pub read-four : (words area : List ℕ) → length words ≡ 4
    → slice_set (slice_set (slice_set (slice_set words 0 (word_at 0x1C area)) 1 (word_at 0x20 area))
    2 (word_at 0x24 area)) 3 (word_at 0x28 area)
    ≡ words_at 0x1C (length words) area
unfolding words_at
read-four [] area e = absurd (omega arith)
read-four (x ∷ []) area e = absurd (omega arith)
read-four (x ∷ y ∷ []) area e = absurd (omega arith)
read-four (x ∷ y ∷ z ∷ []) area e = absurd (omega arith)
read-four (x ∷ y ∷ z ∷ w ∷ []) area e = refl
read-four (x ∷ y ∷ z ∷ w ∷ v ∷ words) area e = absurd (omega arith)

pub write-one : (words area : List ℕ) → length words ≡ 1
    → put_word 0x1C (get_or words 0 0) area ≡ put_words 0x1C words area
unfolding put_words
write-one [] area e = absurd (omega arith)
write-one (x ∷ []) area e = refl
write-one (x ∷ y ∷ words) area e = absurd (omega arith)

pub write-two : (words area : List ℕ) → length words ≡ 2
    → put_word 0x20 (get_or words 1 0) (put_word 0x1C (get_or words 0 0) area)
    ≡ put_words 0x1C words area
unfolding put_words
write-two [] area e = absurd (omega arith)
write-two (x ∷ []) area e = absurd (omega arith)
write-two (x ∷ y ∷ []) area e = refl
write-two (x ∷ y ∷ z ∷ words) area e = absurd (omega arith)

pub write-three : (words area : List ℕ) → length words ≡ 3
    → put_word 0x24 (get_or words 2 0)
    (put_word 0x20 (get_or words 1 0) (put_word 0x1C (get_or words 0 0) area))
    ≡ put_words 0x1C words area
unfolding put_words
write-three [] area e = absurd (omega arith)
write-three (x ∷ []) area e = absurd (omega arith)
write-three (x ∷ y ∷ []) area e = absurd (omega arith)
write-three (x ∷ y ∷ z ∷ []) area e = refl
write-three (x ∷ y ∷ z ∷ w ∷ words) area e = absurd (omega arith)
