-- Frames in an area: read from their parts, and after an answer.
use Rattle.std.proofs.Common.{◌≡◌, ℕ, ◌+◌, ◌*◌, ◌-◌, ◌^◌, ◌<◌, ◌≤◌, ◌⊎◌, inl, inr, List, length, get_or, refl, ap, ◌∙◌, arith}
use Rattle.std.specs.List.{AllByRecursion}
use Rattle.std.proofs.Common.{◌/◌, true, Some, Ok}
use Rattle.std.proofs.lemmas.Bool.Decides.{nat_tests}
use Rattle.scmi_codec.specs.Header.{HeaderFields, header_of}
use Rattle.scmi_codec.specs.Area.{is_well_formed_within, length_at, header_at, frame_of, frame_within, waiting_within, StandsWithin}
use Rattle.scmi_codec.specs.ChannelArea.{capacity, room_for}
use Rattle.scmi_codec.specs.Word.{words_at, put_word, put_words}
use Rattle.scmi_codec.specs.declared.payload.TheConstants.{PAYLOAD_WORDS}
use Rattle.scmi_codec.specs.declared.frame.Frame.{Frame}
use Rattle.scmi_codec.specs.declared.frame.Frame.TheVariants.{Good}
use Rattle.scmi_codec.proofs.WordLemmas.{length-put_word, get_or-put_word, get_or-put_word_above, word_at-put_word, word_at-put_word_other, same_words, same_word_lists, words_at-put_words, words_at-put_word_other, word_at-put_words_other, length-put_words, get_or-put_words}

well_formed : (most n : ℕ) → n ≤ most → is_well_formed_within most (4 + 4 * n) ≡ true
well_formed most n few = grind (arith, nat_tests)

quarter : (n : ℕ) → (4 + 4 * n - 4) / 4 ≡ n
quarter n = omega arith

-- a frame is read from its three parts
pub frame_within-good : (most : ℕ) (area : List ℕ) (header : HeaderFields) (words : List ℕ)
    → length words ≤ most → length_at area ≡ 4 + 4 * length words
    → header_of (header_at area) ≡ header → words_at 0x1C (length words) area ≡ words
    → frame_within most area ≡ Good (record { header = header; payload = record { items = words } })
frame_within-good most area header words few el eh ew =
    rw (el, well_formed most (length words) few, quarter (length words), eh, ew) refl

pub frame_of-good : (area : List ℕ) (header : HeaderFields) (words : List ℕ)
    → length words ≤ PAYLOAD_WORDS → length_at area ≡ 4 + 4 * length words
    → header_of (header_at area) ≡ header → words_at 0x1C (length words) area ≡ words
    → frame_of area ≡ Good (record { header = header; payload = record { items = words } })
frame_of-good area header words few el eh ew =
    frame_within-good PAYLOAD_WORDS area header words few el eh ew

-- an area after a message of this header word and these payload words, and then a status word
abbrev pub area_after_reply : List ℕ → ℕ → ℕ → List ℕ → List ℕ
area_after_reply area status word words = put_word 0x04 status
    (put_words 0x1C words (put_word 0x18 word (put_word 0x14 (4 + 4 * length words) area)))

pub StandsWithin-replied : (most : ℕ) (area : List ℕ) (header : HeaderFields) (status word : ℕ)
    (words : List ℕ) → 0x1C + 4 * length words ≤ length area → length words ≤ PAYLOAD_WORDS
    → length words ≤ most
    → AllByRecursion (λ w. w < 2 ^ 32) words → status < 2 ^ 32 → word < 2 ^ 32
    → header_of word ≡ header
    → StandsWithin most (area_after_reply area status word words) status
    (Good (record { header = header; payload = record { items = words } }))
StandsWithin-replied most area header status word words room few within small low narrow unpacked =
    let a : List ℕ = put_word 0x14 (4 + 4 * length words) area in
    let b : List ℕ = put_word 0x18 word a in
    let d : List ℕ = put_words 0x1C words b in
    let la : length a ≡ length area =
    length-put_word 0x14 (4 + 4 * length words) area (omega arith) in
    let lb : length b ≡ length area = length-put_word 0x18 word a (omega arith) ∙ la in
    let ld : length d ≡ length area = length-put_words 0x1C words b (omega arith) ∙ lb in
    let el : length_at (put_word 0x04 status d) ≡ 4 + 4 * length words =
    word_at-put_word_other 0x04 status d 0x14 (omega arith) (inr (omega arith))
    ∙ word_at-put_words_other 0x1C words b 0x14 (omega arith) (omega arith)
    ∙ word_at-put_word_other 0x18 word a 0x14 (omega arith) (inl (omega arith))
    ∙ word_at-put_word 0x14 (4 + 4 * length words) area (omega arith) (omega arith) in
    let eh : header_at (put_word 0x04 status d) ≡ word =
    word_at-put_word_other 0x04 status d 0x18 (omega arith) (inr (omega arith))
    ∙ word_at-put_words_other 0x1C words b 0x18 (omega arith) (omega arith)
    ∙ word_at-put_word 0x18 word a (omega arith) narrow in
    let ew : words_at 0x1C (length words) (put_word 0x04 status d) ≡ words =
    words_at-put_word_other 0x04 status d 0x1C (length words) (omega arith) (inr (omega arith))
    ∙ words_at-put_words 0x1C words b (omega arith) small in
    record {
      status = word_at-put_word 0x04 status d (omega arith) low;
      frame = frame_within-good most (put_word 0x04 status d) header words within el
          (ap header_of eh ∙ unpacked) ew;
    }

pub kept-replied : (area : List ℕ) (status word : ℕ) (words : List ℕ) (i : ℕ)
    → 0x1C + 4 * length words ≤ length area
    → (i < 0x04) ⊎ ((0x08 ≤ i) × (i < 0x14)) ⊎ (0x1C + 4 * length words ≤ i)
    → get_or (area_after_reply area status word words) i 0 ≡ get_or area i 0
kept-replied area status word words i room apart =
    let a : List ℕ = put_word 0x14 (4 + 4 * length words) area in
    let b : List ℕ = put_word 0x18 word a in
    let d : List ℕ = put_words 0x1C words b in
    let la : length a ≡ length area =
    length-put_word 0x14 (4 + 4 * length words) area (omega arith) in
    let lb : length b ≡ length area = length-put_word 0x18 word a (omega arith) ∙ la in
    let ld : length d ≡ length area = length-put_words 0x1C words b (omega arith) ∙ lb in
    get_or-put_word 0x04 status d i (omega arith) (away apart)
    ∙ get_or-put_words 0x1C words b i (omega arith) (away' apart)
    ∙ get_or-put_word 0x18 word a i (omega arith) (away'' apart)
    ∙ get_or-put_word 0x14 (4 + 4 * length words) area i (omega arith) (away3 apart)
  where
    Apart : Type 0
    Apart = (i < 0x04) ⊎ ((0x08 ≤ i) × (i < 0x14)) ⊎ (0x1C + 4 * length words ≤ i)

    away : Apart → (i < 0x04) ⊎ (0x04 + 4 ≤ i)
    away (inl h) = inl h
    away (inr (inl h)) = inr h.0
    away (inr (inr h)) = inr (omega arith)

    away' : Apart → (i < 0x1C) ⊎ (0x1C + 4 * length words ≤ i)
    away' (inl h) = inl (omega arith)
    away' (inr (inl h)) = inl (omega arith)
    away' (inr (inr h)) = inr h

    away'' : Apart → (i < 0x18) ⊎ (0x18 + 4 ≤ i)
    away'' (inl h) = inl (omega arith)
    away'' (inr (inl h)) = inl (omega arith)
    away'' (inr (inr h)) = inr (omega arith)

    away3 : Apart → (i < 0x14) ⊎ (0x14 + 4 ≤ i)
    away3 (inl h) = inl (omega arith)
    away3 (inr (inl h)) = inl h.1
    away3 (inr (inr h)) = inr (omega arith)

-- a frame is the same where its bytes are
frame_within-same : (most : ℕ) (old new : List ℕ) → ((k : ℕ) → 0x14 ≤ k
    → get_or new k 0 ≡ get_or old k 0) → frame_within most new ≡ frame_within most old
frame_within-same most old new same =
    let el : length_at new ≡ length_at old = same_words 0x14 old new (λ k lo hi. same k lo) in
    let eh : header_at new ≡ header_at old =
    same_words 0x18 old new (λ k lo hi. same k (omega arith)) in
    let ew : (n : ℕ) → words_at 0x1C n new ≡ words_at 0x1C n old =
    λ n. same_word_lists 0x1C n old new (λ k lo hi. same k (omega arith)) in
    rw (el, eh, ew ((length_at old - 4) / 4)) refl

-- a status alone is written
pub StandsWithin-status : (most : ℕ) (area : List ℕ) (status : ℕ) → 0x08 ≤ length area → status
    < 2 ^ 32 → StandsWithin most (put_word 0x04 status area) status (frame_within most area)
StandsWithin-status most area status room small = record {
  status = word_at-put_word 0x04 status area (omega arith) small;
  frame = frame_within-same most area (put_word 0x04 status area)
      (λ k lo. get_or-put_word_above 0x04 status area k (omega arith) (omega arith));
}

-- a posted message waits
pub posted-waits : (most : ℕ) (area : List ℕ) (f : Frame) → StandsWithin most area 0 f
    → waiting_within most area ≡ Some f
posted-waits most area f s = rw (s.status, s.frame) refl

-- an area that is not refused has room
pub has_room : (words : ℕ) (area : List ℕ) → room_for words area ≡ Ok tt → words ≤ capacity area
has_room words area e = grind (arith, nat_tests)
