-- The area that words make, word by word.
use Rattle.std.proofs.Common.{◌≡◌, ℕ, zero, suc, ◌+◌, ◌*◌, ◌-◌, ◌%◌, ◌^◌, ◌<◌, ◌≤◌, ◌⊎◌, inl, inr, List, [], ◌∷◌, ◌++◌, length, take, drop, get_or, slice_index, replicate, refl, sym, ap, ◌∙◌, arith, true, false, nat_le, length-append}
use Rattle.std.proofs.lemmas.Bool.Decides.{leb_tells}
use Rattle.std.proofs.lemmas.List.{get_or_append_left, get_or-append_right, get_or-drop, length-drop, length-take-le, take_more, take_all}
use lib.ListN.{get_or-replicate, length-replicate}
use Rattle.std.specs.List.{AllByRecursion}
use Rattle.byteorder.specs.Endian.{little_bytes}
use Rattle.scmi_codec.specs.Header.{header_of, header_word}
use Rattle.scmi_codec.specs.Area.{status_at, length_at, header_at, frame_of}
use Rattle.scmi_codec.specs.Word.{word_at, words_at, put_word, put_words}
use Rattle.scmi_codec.specs.declared.frame.Frame.{Frame}
use Rattle.scmi_codec.specs.declared.frame.Frame.TheVariants.{Good, Malformed}
use Rattle.scmi_codec.proofs.AreaLemmas.{frame_of-good}
use Rattle.scmi_codec.proofs.WordLemmas.{word_at-put_word, word_at-put_words_other, words_at-put_words, length-put_word, length-put_words, get_or-put_words, get_or-put_word, put_words-push}
use Rattle.scmi_words.specs.Area.{Begins, IsValid, frame_words}
use Rattle.scmi_words.specs.WordImage.{area_of, fresh_area}
use Rattle.scmi_words.specs.declared.layout.TheConstants.{TABLE_WORDS}
use Rattle.scmi_codec.specs.declared.area.TheConstants.{AREA_BYTES}
use Rattle.scmi_words.proofs.Loads.{third_on}

-- a word of a list of words
word_of_list : (at n i : ℕ) (area : List ℕ) → i < n
    → get_or (words_at at n area) i 0 ≡ word_at (at + 4 * i) area
unfolding words_at
word_of_list at zero i area lt = absurd (omega arith)
word_of_list at (suc n) zero area lt =
    let e : at ≡ at + 4 * 0 = omega arith in
    ap (λ k. word_at k area) e
word_of_list at (suc n) (suc i) area lt =
    let e : at + 4 + 4 * i ≡ at + 4 * suc i = omega arith in
    word_of_list (at + 4) n i area (omega arith) ∙ ap (λ k. word_at k area) e

words_at-each : (at : ℕ) (area xs : List ℕ) → ((i : ℕ) → i < length xs
    → word_at (at + 4 * i) area ≡ get_or xs i 0) → words_at at (length xs) area ≡ xs
unfolding words_at
words_at-each at area [] h = refl
words_at-each at area (x ∷ xs) h = let head : word_at at area ≡ x =
    ap (λ k. word_at k area) (let e : at ≡ at + 4 * 0 = omega arith in e) ∙ h 0 (omega arith) in
    let tail : words_at (at + 4) (length xs) area ≡ xs =
    words_at-each (at + 4) area xs (λ i lt. ap (λ k. word_at k area)
    (let e : at + 4 + 4 * i ≡ at + 4 * suc i = omega arith in e) ∙ h (suc i) (omega arith)) in
    λ j. head j ∷ tail j

all_narrow : (xs : List ℕ) → ((i : ℕ) → get_or xs i 0 < 2 ^ 32)
    → AllByRecursion (λ w. w < 2 ^ 32) xs
all_narrow [] h = tt
all_narrow (x ∷ xs) h = (h 0, all_narrow xs (λ i. h (suc i)))

abbrev zeros : List ℕ
zeros = replicate AREA_BYTES 0

size_zeros : length zeros ≡ AREA_BYTES
size_zeros = length-replicate {A = ℕ} AREA_BYTES 0

all_zero : (n i : ℕ) → get_or (replicate {A = ℕ} n 0) i 0 ≡ 0
all_zero zero i = refl
all_zero (suc n) zero = refl
all_zero (suc n) (suc i) = all_zero n i

is_zero : (i : ℕ) → i < AREA_BYTES → get_or zeros i 0 ≡ 0
is_zero i lt = get_or-replicate {A = ℕ} AREA_BYTES i 0 0 lt

module _ (words : List ℕ) (wide : length words ≡ TABLE_WORDS)
    (narrow : (i : ℕ) → 0 < i → get_or words i 0 < 2 ^ 32) where
  abbrev area : List ℕ
  area = area_of words

  abbrev S : ℕ
  S = get_or words 0 0 % 2 ^ 32

  start_size : length (put_word 0x04 S zeros) ≡ AREA_BYTES
  start_size = length-put_word 0x04 S zeros (omega (arith, size_zeros)) ∙ size_zeros

  rest_size : length (drop 1 words) ≡ (TABLE_WORDS - 1)
  rest_size = length-drop 1 words
      ∙ (let e : length words - 1 ≡ (TABLE_WORDS - 1) = omega arith in e)

  fits : 0x10 + 4 * length (drop 1 words) ≤ length (put_word 0x04 S zeros)
  fits = omega (arith, start_size, rest_size)

  pub area_size : length area ≡ AREA_BYTES
  unfolding area_of
  area_size = length-put_words 0x10 (drop 1 words) (put_word 0x04 S zeros) fits ∙ start_size

  pub area_status : status_at area ≡ S
  unfolding area_of
  area_status =
      word_at-put_words_other 0x10 (drop 1 words) (put_word 0x04 S zeros) 0x04 fits (omega arith)
      ∙ word_at-put_word 0x04 S zeros (omega (arith, size_zeros)) (omega arith)

  area_words : words_at 0x10 (length (drop 1 words)) area ≡ drop 1 words
  unfolding area_of
  area_words = words_at-put_words 0x10 (drop 1 words) (put_word 0x04 S zeros) fits
      (all_narrow (drop 1 words) (λ i. let e = get_or-drop 1 words i 0 in
      let n = narrow (1 + i) (omega arith) in omega arith))

  -- a word after the status
  pub area_word : (j : ℕ) → 0 < j → j < TABLE_WORDS → word_at (12 + 4 * j) area ≡ get_or words j 0
  area_word j pos lt =
      let e : 0x10 + 4 * (j - 1) ≡ 12 + 4 * j = omega arith in
      let f : 1 + (j - 1) ≡ j = omega arith in
      ap (λ k. word_at k area) (sym e)
      ∙ (sym (word_of_list 0x10 (length (drop 1 words)) (j - 1) area (omega (arith, rest_size)))
      ∙ (ap (λ ws. get_or ws (j - 1) 0) area_words
      ∙ (get_or-drop 1 words (j - 1) 0 ∙ ap (λ k. get_or words k 0) f)))

  pub area_reserved : (i : ℕ) → (i < 0x04) ⊎ ((0x08 ≤ i) × (i < 0x10)) → slice_index area i ≡ 0
  unfolding area_of
  area_reserved i (inl low) =
      get_or-put_words 0x10 (drop 1 words) (put_word 0x04 S zeros) i fits (inl (omega arith))
      ∙ (get_or-put_word 0x04 S zeros i (omega (arith, size_zeros)) (inl low)
      ∙ is_zero i (omega arith))
  area_reserved i (inr high) =
      get_or-put_words 0x10 (drop 1 words) (put_word 0x04 S zeros) i fits (inl (omega arith))
      ∙ (get_or-put_word 0x04 S zeros i (omega (arith, size_zeros)) (inr (omega arith))
      ∙ is_zero i (omega arith))

  -- the area holds the frame whose words stand from the length on
  pub area_frame : (f : Frame) → IsValid f → Begins words (frame_words f) → frame_of area ≡ f
  area_frame (Good m) h b =
      let el : length_at area ≡ 4 + 4 * length m.payload.items =
      area_word 2 (omega arith) (omega arith) ∙ b 0 (omega arith) in
      let eh : header_at area ≡ header_word m.header = area_word 3 (omega arith) (omega arith)
      ∙ b 1 (omega arith) in
      let few = h.few in
      let ew : words_at 0x1C (length m.payload.items) area ≡ m.payload.items =
      words_at-each 0x1C area m.payload.items (λ i lt.
      let e : 0x1C + 4 * i ≡ 12 + 4 * (4 + i) = omega arith in
      let g : 2 + (2 + i) ≡ 4 + i = omega arith in
      ap (λ k. word_at k area) e ∙ (area_word (4 + i) (omega arith) (omega arith)
      ∙ (ap (λ k. get_or words k 0) (sym g) ∙ (b (2 + i) (omega arith) ∙ third_on
      (4 + 4 * length m.payload.items) (header_word m.header) m.payload.items i)))) in
      frame_of-good area m.header m.payload.items few el (ap header_of eh ∙ h.header) ew
  area_frame (Malformed l w) h b =
      let el : length_at area ≡ l = area_word 2 (omega arith) (omega arith) ∙ b 0 (omega arith) in
      let eh : header_at area ≡ w = area_word 3 (omega arith) (omega arith) ∙ b 1 (omega arith) in
      rw (el, eh, h) refl

-- one more word is written
pub written_more : (words start before after : List ℕ) (i : ℕ)
    → 1 ≤ i → i < length words → before ≡ put_words 0x10 (take (i - 1) (drop 1 words)) start
    → after ≡ put_word (12 + 4 * i) (get_or words i 0) before
    → after ≡ put_words 0x10 (take (i + 1 - 1) (drop 1 words)) start
written_more words start before after i low lt so_far write =
    let rest : length (drop 1 words) ≡ length words - 1 = length-drop 1 words in
    let len : length (take (i - 1) (drop 1 words)) ≡ i - 1 =
    length-take-le (i - 1) (drop 1 words) (omega arith) in
    let at : 0x10 + 4 * length (take (i - 1) (drop 1 words)) ≡ 12 + 4 * i = omega arith in
    let here : get_or (drop 1 words) (i - 1) 0 ≡ get_or words i 0 = get_or-drop 1 words (i - 1) 0
    ∙ ap (λ k. get_or words k 0) (let e : 1 + (i - 1) ≡ i = omega arith in e) in
    let one : i + 1 - 1 ≡ (i - 1) + 1 = omega arith in
    let more : take (i + 1 - 1) (drop 1 words)
    ≡ take (i - 1) (drop 1 words) ++ get_or words i 0 ∷ [] =
    ap (λ k. take k (drop 1 words)) one ∙ (take_more (drop 1 words) (i - 1) 0 (omega arith)
    ∙ ap (λ w. take (i - 1) (drop 1 words) ++ w ∷ []) here) in
    write ∙ (ap (put_word (12 + 4 * i) (get_or words i 0)) so_far
    ∙ sym (ap (λ ws. put_words 0x10 ws start) more
    ∙ (put_words-push 0x10 (take (i - 1) (drop 1 words)) (get_or words i 0) start
    ∙ ap (λ k. put_word k (get_or words i 0) (put_words 0x10 (take (i - 1) (drop 1 words)) start))
    at)))

pub all_written : (words start : List ℕ) (i : ℕ) → length words ≡ TABLE_WORDS → TABLE_WORDS ≤ i
    → put_words 0x10 (take (i - 1) (drop 1 words)) start ≡ put_words 0x10 (drop 1 words) start
all_written words start i wide high =
    let rest = length-drop 1 words in
    ap (λ ws. put_words 0x10 ws start) (take_all (i - 1) (drop 1 words) (omega arith))

same_list : (xs ys : List ℕ) → length xs ≡ length ys
    → ((i : ℕ) → i < length xs → get_or xs i 0 ≡ get_or ys i 0) → xs ≡ ys
same_list [] [] e h = refl
same_list [] (y ∷ ys) e h = absurd (omega arith)
same_list (x ∷ xs) [] e h = absurd (omega arith)
same_list (x ∷ xs) (y ∷ ys) e h =
    let tail : xs ≡ ys = same_list xs ys (omega arith) (λ i lt. h (suc i) (omega arith)) in
    λ j. h 0 (omega arith) j ∷ tail j

-- the bytes of a zero, read anywhere
zero_byte : (k : ℕ) → get_or (little_bytes 4 0) k 0 ≡ 0
zero_byte zero = refl
zero_byte (suc zero) = refl
zero_byte (suc (suc zero)) = refl
zero_byte (suc (suc (suc zero))) = refl
zero_byte (suc (suc (suc (suc k)))) = refl

-- a zero written over zeros
zero_written : (at : ℕ) (area : List ℕ) → at + 4 ≤ length area
    → ((i : ℕ) → at ≤ i → get_or area i 0 ≡ 0) → put_word at 0 area ≡ area
zero_written at area fits over = same_list (put_word at 0 area) area
    (length-put_word at 0 area fits) (λ i lt. pick i (leb_tells at i) (leb_tells (at + 4) i)) where
      inside : (i : ℕ) → at ≤ i → i < at + 4 → get_or (put_word at 0 area) i 0 ≡ 0
      inside i low high =
          let front : length (take at area) ≡ at = length-take-le at area (omega arith) in
          get_or_append_left (take at area ++ little_bytes 4 0) (drop (at + 4) area) 0 i
          (omega (arith, length-append (take at area) (little_bytes 4 0)))
          ∙ (get_or-append_right (take at area) (little_bytes 4 0) at i 0 front low
          ∙ zero_byte (i - at))

      pick : (i : ℕ) → ((nat_le at i ≡ true) × (at ≤ i)) ⊎ ((nat_le at i ≡ false) × (i < at))
          → ((nat_le (at + 4) i ≡ true) × (at + 4 ≤ i))
          ⊎ ((nat_le (at + 4) i ≡ false) × (i < at + 4))
          → get_or (put_word at 0 area) i 0 ≡ get_or area i 0
      pick i (inr below) over' = get_or-put_word at 0 area i fits (inl below.1)
      pick i (inl from) (inl above) = get_or-put_word at 0 area i fits (inr above.1)
      pick i (inl from) (inr within) = inside i from.1 within.1 ∙ sym (over i from.1)

-- zeros written over zeros
zeros_written : (at count : ℕ) (area : List ℕ) → at + 4 * count ≤ length area
    → ((i : ℕ) → at ≤ i → get_or area i 0 ≡ 0) → put_words at (replicate count 0) area ≡ area
unfolding put_words
zeros_written at zero area fits over = refl
zeros_written at (suc count) area fits over =
    ap (put_words (at + 4) (replicate count 0)) (zero_written at area (omega arith) over)
    ∙ zeros_written (at + 4) count area (omega arith) (λ i low. over i (omega arith))

fresh_written : put_words 0x10 (replicate (TABLE_WORDS - 1) 0) (put_word 0x04 1 zeros) ≡ fresh_area
unfolding fresh_area
fresh_written =
    let size : length (put_word 0x04 1 zeros) ≡ AREA_BYTES =
    length-put_word 0x04 1 zeros (omega (arith, size_zeros)) ∙ size_zeros in
    zeros_written 0x10 (TABLE_WORDS - 1) (put_word 0x04 1 zeros) (omega arith)
    (λ i low. get_or-put_word 0x04 1 zeros i (omega (arith, size_zeros)) (inr (omega arith))
    ∙ all_zero AREA_BYTES i)

-- words of a fresh table
pub area_fresh : (words : List ℕ) → length words ≡ TABLE_WORDS → get_or words 0 0 % 2 ^ 32 ≡ 1
    → ((i : ℕ) → 0 < i → i < TABLE_WORDS → get_or words i 0 ≡ 0) → area_of words ≡ fresh_area
unfolding area_of
area_fresh words wide one zero_on =
    let rest : length (drop 1 words) ≡ length words - 1 = length-drop 1 words in
    let size : length (replicate {A = ℕ} (TABLE_WORDS - 1) 0) ≡ (TABLE_WORDS - 1) =
    length-replicate {A = ℕ} (TABLE_WORDS - 1) 0 in
    let tail : drop 1 words ≡ replicate (TABLE_WORDS - 1) 0 =
    same_list (drop 1 words) (replicate (TABLE_WORDS - 1) 0) (omega arith)
    (λ i lt. get_or-drop 1 words i 0 ∙ (zero_on (1 + i) (omega arith) (omega arith)
    ∙ sym (get_or-replicate {A = ℕ} (TABLE_WORDS - 1) i 0 0 (omega arith)))) in
    (λ j. put_words 0x10 (tail j) (put_word 0x04 (one j) zeros)) ∙ fresh_written
