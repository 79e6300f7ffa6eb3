-- Words in bytes: reading on, and reading after a write.
use Rattle.std.proofs.Common.{◌≡◌, ℕ, zero, suc, ◌+◌, ◌*◌, ◌-◌, ◌^◌, ◌<◌, ◌≤◌, ◌⊎◌, inl, inr, List, [], ◌∷◌, ◌++◌, length, take, drop, get_or, replicate, refl, sym, ap, ◌∙◌, arith, add-suc, add-one}
use Rattle.std.proofs.lemmas.List.{append_assoc, append-nil, drop-drop, drop_all, drop_at, length-take-le, length-drop, get_or-drop, get_or-append_right, places, take_rest}
use Rattle.std.specs.List.{AllByRecursion}
use Rattle.byteorder.specs.Endian.{little_from, little_bytes}
use Rattle.byteorder.specs.Numbers.{little_number-reads_back}
use borrow.Rule.Slice.PartMut.{put_mid}
use Rattle.scmi_codec.specs.Word.{word_at, words_at, put_word, put_words}

words_at-suc : (at count : ℕ) (area : List ℕ)
    → words_at at (suc count) area ≡ words_at at count area ++ word_at (at + 4 * count) area ∷ []
unfolding words_at
words_at-suc at zero area =
    let e : at ≡ at + 4 * 0 = omega arith in
    ap (λ n. word_at n area ∷ []) e
words_at-suc at (suc count) area =
    let e : at + 4 + 4 * count ≡ at + 4 * suc count = omega arith in
    ap (λ ws. word_at at area ∷ ws) (words_at-suc (at + 4) count area
    ∙ ap (λ n. words_at (at + 4) count area ++ word_at n area ∷ []) e)

-- one word more
pub words_at-more : (at count : ℕ) (area : List ℕ)
    → words_at at (count + 1) area ≡ words_at at count area ++ word_at (at + 4 * count) area ∷ []
words_at-more at count area = rw add-one (words_at-suc at count area)

-- a word written at the end part of an area
pub put_mid-put_word : (at word : ℕ) (area part : List ℕ) → at + 4 ≤ length area
    → part ≡ little_bytes 4 word ++ drop 4 (take (length area - at) (drop at area))
    → put_mid at (length area - at) area part ≡ put_word at word area
put_mid-put_word at word area part fits e =
    let rest : drop (length area - at) (drop at area) ≡ [] =
    let short : length (drop at area) ≤ length area - at = omega (arith, length-drop at area) in
    drop_all (length area - at) (drop at area) short in
    let whole : part ++ drop (length area - at) (drop at area) ≡ part = ap (λ xs. part ++ xs) rest
    ∙ append-nil part in
    let tail : drop 4 (take (length area - at) (drop at area)) ≡ drop (at + 4) area =
    rw take_rest (drop-drop 4 at area) in
    ap (λ xs. take at area ++ xs) (whole ∙ e ∙ ap (λ xs. little_bytes 4 word ++ xs) tail)
    ∙ sym (append_assoc (take at area) (little_bytes 4 word) (drop (at + 4) area))

pub length-put_word : (at word : ℕ) (area : List ℕ) → at + 4 ≤ length area
    → length (put_word at word area) ≡ length area
length-put_word at word area fits = grind (arith, places)

pub get_or-put_word_below : (at word : ℕ) (area : List ℕ) (i : ℕ) → at + 4 ≤ length area → i < at
    → get_or (put_word at word area) i 0 ≡ get_or area i 0
get_or-put_word_below at word area i fits below = grind (arith, places)

pub get_or-put_word_above : (at word : ℕ) (area : List ℕ) (i : ℕ) → at + 4 ≤ length area
    → at + 4 ≤ i → get_or (put_word at word area) i 0 ≡ get_or area i 0
get_or-put_word_above at word area i fits above =
    let front : length (take at area ++ little_bytes 4 word) ≡ at + 4 = grind (arith, places) in
    get_or-append_right (take at area ++ little_bytes 4 word) (drop (at + 4) area)
    (at + 4) i 0 front above
    ∙ get_or-drop (at + 4) area (i - (at + 4)) 0
    ∙ ap (λ k. get_or area k 0) (let e : at + 4 + (i - (at + 4)) ≡ i = omega arith in e)

pub get_or-put_word : (at word : ℕ) (area : List ℕ) (i : ℕ) → at + 4 ≤ length area
    → (i < at) ⊎ (at + 4 ≤ i) → get_or (put_word at word area) i 0 ≡ get_or area i 0
get_or-put_word at word area i fits (inl below) = get_or-put_word_below at word area i fits below
get_or-put_word at word area i fits (inr above) = get_or-put_word_above at word area i fits above

-- a number is read from the part where it stands
pub little_from-drop : (n at : ℕ) (xs : List ℕ) (i : ℕ)
    → little_from (at + i) n xs ≡ little_from i n (drop at xs)
little_from-drop zero at xs i = refl
little_from-drop (suc n) at xs i =
    let here : get_or xs (at + i) 0 ≡ get_or (drop at xs) i 0 = sym (get_or-drop at xs i 0) in
    let on : little_from (suc (at + i)) n xs ≡ little_from (suc i) n (drop at xs) =
    ap (λ k. little_from k n xs) (sym (add-suc at i)) ∙ little_from-drop n at xs (suc i) in
    ap (λ a. a + 256 * little_from (suc (at + i)) n xs) here
    ∙ ap (λ b. get_or (drop at xs) i 0 + 256 * b) on

pub word_at-put_word : (at word : ℕ) (area : List ℕ) → at + 4 ≤ length area → word < 2 ^ 32
    → word_at at (put_word at word area) ≡ word
word_at-put_word at word area fits small =
    let start : at ≡ at + 0 = omega arith in
    let front : length (take at area) ≡ at = length-take-le at area (omega arith) in
    let part : drop at (put_word at word area) ≡ little_bytes 4 word ++ drop (at + 4) area =
    ap (drop at) (append_assoc (take at area) (little_bytes 4 word) (drop (at + 4) area))
    ∙ drop_at (take at area) (little_bytes 4 word ++ drop (at + 4) area) at front in
    ap (λ k. little_from k 4 (put_word at word area)) start
    ∙ little_from-drop 4 at (put_word at word area) 0
    ∙ ap (little_from 0 4) part
    ∙ little_number-reads_back 4 word (drop (at + 4) area) small

-- words are the same where their bytes are
pub same_words : (other : ℕ) (old new : List ℕ) → ((k : ℕ) → other ≤ k → k < other + 4
    → get_or new k 0 ≡ get_or old k 0) → word_at other new ≡ word_at other old
same_words other old new same =
    let a = same other (omega arith) (omega arith) in
    let b = same (suc other) (omega arith) (omega arith) in
    let c = same (suc (suc other)) (omega arith) (omega arith) in
    let d = same (suc (suc (suc other))) (omega arith) (omega arith) in
    cc

pub word_at-put_word_other : (at word : ℕ) (area : List ℕ) (other : ℕ)
    → at + 4 ≤ length area → (other + 4 ≤ at) ⊎ (at + 4 ≤ other)
    → word_at other (put_word at word area) ≡ word_at other area
word_at-put_word_other at word area other fits (inl below) =
    same_words other area (put_word at word area)
    (λ k lo hi. get_or-put_word_below at word area k fits (omega arith))
word_at-put_word_other at word area other fits (inr above) =
    same_words other area (put_word at word area)
    (λ k lo hi. get_or-put_word_above at word area k fits (omega arith))

-- one word more is written
pub put_words-push : (at : ℕ) (words : List ℕ) (word : ℕ) (area : List ℕ) → put_words at
    (words ++ word ∷ []) area ≡ put_word (at + 4 * length words) word (put_words at words area)
unfolding put_words
put_words-push at [] word area =
    let e : at ≡ at + 4 * 0 = omega arith in
    ap (λ n. put_word n word area) e
put_words-push at (w ∷ words) word area =
    let e : at + 4 + 4 * length words ≡ at + 4 * suc (length words) = omega arith in
    put_words-push (at + 4) words word (put_word at w area)
    ∙ ap (λ n. put_word n word (put_words (at + 4) words (put_word at w area))) e

pub length-put_words : (at : ℕ) (words area : List ℕ) → at + 4 * length words ≤ length area
    → length (put_words at words area) ≡ length area
unfolding put_words
length-put_words at [] area fits = refl
length-put_words at (w ∷ words) area fits =
    let room : at + 4 ≤ length area = omega arith in
    let one : length (put_word at w area) ≡ length area = length-put_word at w area room in
    let rest : at + 4 + 4 * length words ≤ length (put_word at w area) = omega arith in
    length-put_words (at + 4) words (put_word at w area) rest ∙ one

-- a byte outside what is written
pub get_or-put_words : (at : ℕ) (words area : List ℕ) (k : ℕ)
    → at + 4 * length words ≤ length area → (k < at) ⊎ (at + 4 * length words ≤ k)
    → get_or (put_words at words area) k 0 ≡ get_or area k 0
unfolding put_words
get_or-put_words at [] area k fits apart = refl
get_or-put_words at (w ∷ words) area k fits (inl below) =
    let room : at + 4 ≤ length area = omega arith in
    let one : length (put_word at w area) ≡ length area = length-put_word at w area room in
    let rest : at + 4 + 4 * length words ≤ length (put_word at w area) = omega arith in
    get_or-put_words (at + 4) words (put_word at w area) k rest (inl (omega arith))
    ∙ get_or-put_word_below at w area k room below
get_or-put_words at (w ∷ words) area k fits (inr above) =
    let room : at + 4 ≤ length area = omega arith in
    let one : length (put_word at w area) ≡ length area = length-put_word at w area room in
    let rest : at + 4 + 4 * length words ≤ length (put_word at w area) = omega arith in
    get_or-put_words (at + 4) words (put_word at w area) k rest (inr (omega arith))
    ∙ get_or-put_word_above at w area k room (omega arith)

-- lists of words are the same where their bytes are
pub same_word_lists : (at count : ℕ) (old new : List ℕ) → ((k : ℕ) → at ≤ k → k < at + 4 * count
    → get_or new k 0 ≡ get_or old k 0) → words_at at count new ≡ words_at at count old
unfolding words_at
same_word_lists at zero old new same = refl
same_word_lists at (suc count) old new same =
    let head : word_at at new ≡ word_at at old =
    same_words at old new (λ k lo hi. same k lo (omega arith)) in
    let tail : words_at (at + 4) count new ≡ words_at (at + 4) count old =
    same_word_lists (at + 4) count old new (λ k lo hi. same k (omega arith) (omega arith)) in
    ap (λ w. w ∷ words_at (at + 4) count new) head ∙ ap (λ ws. word_at at old ∷ ws) tail

-- words that were written are read again
pub words_at-put_words : (at : ℕ) (words area : List ℕ)
    → at + 4 * length words ≤ length area → AllByRecursion (λ w. w < 2 ^ 32) words
    → words_at at (length words) (put_words at words area) ≡ words
unfolding put_words words_at
words_at-put_words at [] area fits small = refl
words_at-put_words at (w ∷ words) area fits small =
    let room : at + 4 ≤ length area = omega arith in
    let one : length (put_word at w area) ≡ length area = length-put_word at w area room in
    let rest : at + 4 + 4 * length words ≤ length (put_word at w area) = omega arith in
    let head : word_at at (put_words (at + 4) words (put_word at w area)) ≡ w =
    same_words at (put_word at w area) (put_words (at + 4) words (put_word at w area))
    (λ k lo hi. get_or-put_words (at + 4) words (put_word at w area) k rest (inl (omega arith)))
    ∙ word_at-put_word at w area room small.0 in
    let tail : words_at (at + 4) (length words) (put_words (at + 4) words (put_word at w area))
    ≡ words =
    words_at-put_words (at + 4) words (put_word at w area) rest small.1 in
    ap (λ x. x ∷ words_at (at + 4) (length words) (put_words (at + 4) words (put_word at w area)))
    head ∙ ap (λ ws. w ∷ ws) tail

-- a word and a list of words away from the place of a write
pub words_at-put_word_other : (at word : ℕ) (area : List ℕ) (other count : ℕ)
    → at + 4 ≤ length area → (other + 4 * count ≤ at) ⊎ (at + 4 ≤ other)
    → words_at other count (put_word at word area) ≡ words_at other count area
words_at-put_word_other at word area other count fits (inl below) =
    same_word_lists other count area (put_word at word area)
    (λ k lo hi. get_or-put_word_below at word area k fits (omega arith))
words_at-put_word_other at word area other count fits (inr above) =
    same_word_lists other count area (put_word at word area)
    (λ k lo hi. get_or-put_word_above at word area k fits (omega arith))

pub word_at-put_words_other : (at : ℕ) (words area : List ℕ) (other : ℕ) → at + 4 * length words
    ≤ length area → other + 4 ≤ at → word_at other (put_words at words area) ≡ word_at other area
word_at-put_words_other at words area other fits below =
    same_words other area (put_words at words area)
    (λ k lo hi. get_or-put_words at words area k fits (inl (omega arith)))

-- past its end a list reads as 0, as do zeros
get_or-zeros : (i count : ℕ) (xs : List ℕ) → get_or (xs ++ replicate count 0) i 0 ≡ get_or xs i 0
get_or-zeros i zero [] = refl
get_or-zeros zero (suc count) [] = refl
get_or-zeros (suc i) (suc count) [] = get_or-zeros i count []
get_or-zeros zero count (x ∷ xs) = refl
get_or-zeros (suc i) count (x ∷ xs) = get_or-zeros i count xs

-- zeros after a list of bytes read as what stands past its end
little_from-zeros : (i n count : ℕ) (xs : List ℕ)
    → little_from i n (xs ++ replicate count 0) ≡ little_from i n xs
little_from-zeros i zero count xs = refl
little_from-zeros i (suc n) count xs =
    let here : get_or (xs ++ replicate count 0) i 0 ≡ get_or xs i 0 = get_or-zeros i count xs in
    let on : little_from (suc i) n (xs ++ replicate count 0) ≡ little_from (suc i) n xs =
    little_from-zeros (suc i) n count xs in
    ap (λ a. a + 256 * little_from (suc i) n (xs ++ replicate count 0)) here
    ∙ ap (λ b. get_or xs i 0 + 256 * b) on

pub word_at-zeros : (at count : ℕ) (xs : List ℕ)
    → word_at at (xs ++ replicate count 0) ≡ word_at at xs
word_at-zeros at count xs = little_from-zeros at 4 count xs
