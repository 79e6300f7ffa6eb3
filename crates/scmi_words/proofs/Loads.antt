-- What loads of the area tell of a message.
use Rattle.std.proofs.Common.{◌≡◌, ℕ, suc, ◌+◌, ◌-◌, ◌*◌, ◌/◌, ◌<◌, List, [], ◌∷◌, ◌++◌, length, take, get_or, slice_index, refl, sym, ap, ◌∙◌, subst, arith}
use Rattle.std.specs.List.{refill}
use Rattle.std.proofs.Math.ListN.{set}
use Rattle.std.proofs.lemmas.List.{take_more, take_more_set, length-set}
use Rattle.scmi_codec.specs.Header.{header_word}
use Rattle.scmi_codec.specs.declared.message.Message.{Message}
use Rattle.scmi_codec.specs.declared.frame.Frame.TheVariants.{Good}
use Rattle.scmi_words.specs.declared.view.CallerHalf.{CallerHalf}
use Rattle.scmi_words.specs.declared.view.CalleeHalf.{CalleeHalf}
use Rattle.scmi_words.specs.Area.{frame_words}
use Rattle.scmi_words.specs.View.{TableSeat, CallerBecomes, caller_of, caller_or, CalleeBecomes, callee_of, callee_or, with_callee}
use Rattle.scmi_words.specs.CallerSteps.{caller_after, answer_area}
use Rattle.scmi_words.specs.CalleeSteps.{callee_after, frame_area}

pub half_is : (s t : TableSeat) (h : CallerHalf) → CallerBecomes s h t → caller_of t ≡ h
half_is s t h b = ap (λ (m : Rattle.atomic_table.specs.Table.Me
    (Unit {0}) Rattle.scmi_words.specs.declared.view.View.View). caller_or m.0.caller) b.2

pub third_on : (a b : ℕ) (xs : List ℕ) (i : ℕ) → get_or (a ∷ b ∷ xs) (2 + i) 0 ≡ get_or xs i 0
third_on a b xs i =
    let e : 2 + i ≡ suc (suc i) = omega arith in
    ap (λ (k : ℕ). get_or (a ∷ b ∷ xs) k 0) e

-- as many words as before, written over them
written_over : (xs ys : List ℕ) → length ys ≡ length xs → refill (length xs) xs ys ≡ ys
written_over [] [] e = refl
written_over [] (y ∷ ys) e = absurd (omega arith)
written_over (x ∷ xs) [] e = absurd (omega arith)
written_over (x ∷ xs) (y ∷ ys) e = ap (λ zs. y ∷ zs) (written_over xs ys (omega arith))

-- one word written over another
pub one_over : (xs ys : List ℕ) (i n : ℕ) → ys ≡ xs
    → refill (length xs) xs (set ys i n) ≡ set xs i n
one_over xs ys i n is = ap (λ zs. refill (length xs) xs (set zs i n)) is
    ∙ written_over xs (set xs i n) (length-set xs i n)

pub one_over_long : (xs ys : List ℕ) (i n count : ℕ) → ys ≡ xs → length xs ≡ count
    → length (refill (length xs) xs (set ys i n)) ≡ count
one_over_long xs ys i n count is long = ap length (one_over xs ys i n is) ∙ length-set xs i n ∙ long

-- the payload so far, with one more word of the area
pub payload_more : (m : Message) (xs ys : List ℕ) (i n : ℕ)
    → ys ≡ xs → length xs ≡ length m.payload.items → i < length m.payload.items
    → take i xs ≡ take i m.payload.items → n ≡ get_or (frame_words (Good m)) (2 + i) 0
    → take (i + 1) (refill (length xs) xs (set ys i n)) ≡ take (i + 1) m.payload.items
payload_more m xs ys i n over long lt is word = ap (λ zs. take (i + 1) zs) (one_over xs ys i n over)
    ∙ take_more_set xs i n (omega arith) ∙ (λ j. is j ++ (word
    ∙ third_on (4 + 4 * length m.payload.items) (header_word m.header) m.payload.items i) j ∷ [])
    ∙ sym (take_more m.payload.items i 0 lt)

-- a load of the area by a seat whose caller's half is h
pub word_at : (t : TableSeat) (h : CallerHalf) (m : Message) (n word i : ℕ) → caller_of t ≡ h
    → answer_area h ≡ frame_words (Good m)
    → ((j : ℕ) → word ≡ 2 + j → j < length (answer_area (caller_of t))
    → n ≡ slice_index (answer_area (caller_of t)) j) → word ≡ 2 + i
    → i < 2 + length m.payload.items → n ≡ get_or (frame_words (Good m)) i 0
word_at t h m n word i is area told at lt =
    let here : answer_area (caller_of t) ≡ frame_words (Good m) = ap answer_area is ∙ area in
    told i at (subst (λ (xs : List ℕ). i < length xs) (sym here) (omega arith))
    ∙ ap (λ (xs : List ℕ). get_or xs i 0) here

-- the loads of the length and of the header of the response that the caller collected
pub response_after : (s t u : TableSeat) (m : Message) (l w : ℕ) → CallerBecomes s
    (caller_after (caller_of s) 1) t → CallerBecomes t (caller_after (caller_of t) 1) u
    → answer_area (caller_of s) ≡ frame_words (Good m)
    → ((j : ℕ) → 2 ≡ 2 + j → j < length (answer_area (caller_of s))
    → l ≡ slice_index (answer_area (caller_of s)) j)
    → ((j : ℕ) → 3 ≡ 2 + j → j < length (answer_area (caller_of t))
    → w ≡ slice_index (answer_area (caller_of t)) j)
    → (answer_area (caller_of u) ≡ frame_words (Good m)) × (w ≡ header_word m.header)
    × (l / 4 - 1 ≡ length m.payload.items)
response_after s t u m l w a b area first second = let h = caller_of s in
    let one : caller_of t ≡ caller_after h 1 = half_is s t (caller_after h 1) a in
    let two : caller_of u ≡ caller_after (caller_after h 1) 1 = half_is t u
    (caller_after (caller_of t) 1) b ∙ ap (λ (z : CallerHalf). caller_after z 1) one in
    let long : l ≡ 4 + 4 * length m.payload.items =
    word_at s h m l 2 0 refl area first (omega arith) (omega arith) in
    let head : w ≡ header_word m.header =
    word_at t (caller_after h 1) m w 3 1 one area second (omega arith) (omega arith) in
    (ap answer_area two ∙ area, head, omega arith)

pub callee_is : (s t : TableSeat) (h : CalleeHalf) → CalleeBecomes s h t → callee_of t ≡ h
callee_is s t h b = ap (λ (m : Rattle.atomic_table.specs.Table.Me
    (Unit {0}) Rattle.scmi_words.specs.declared.view.View.View). callee_or m.0.callee) b.2

pub callee_word_at : (t : TableSeat) (h : CalleeHalf) (ws : List ℕ) (n word i : ℕ) → callee_of t ≡ h
    → frame_area h ≡ ws
    → ((j : ℕ) → word ≡ 2 + j → j < length (frame_area (callee_of t)) → n ≡ slice_index
    (frame_area (callee_of t)) j) → word ≡ 2 + i → i < length ws → n ≡ get_or ws i 0
callee_word_at t h ws n word i is area told at lt = let here : frame_area (callee_of t) ≡ ws =
    ap frame_area is ∙ area in
    told i at (subst (λ (xs : List ℕ). i < length xs) (sym here) lt)
    ∙ ap (λ (xs : List ℕ). get_or xs i 0) here

-- steps that only count, one run after another
pub callee_chain : (s t u : TableSeat) (h : CalleeHalf) (n steps : ℕ)
    → CalleeBecomes s h t → CalleeBecomes t (callee_after (callee_of t) n) u → h.steps + n ≡ steps
    → CalleeBecomes s (record h { steps = steps }) u
callee_chain s t u h n steps a b is = (
  b.0 ∙ a.0,
  b.1
      ∙ a.1,
  b.2 ∙ ((λ i. (with_callee (a.2 i).0 (callee_after (callee_is s t h a i) n), (a.2 i).1))
      ∙ ap (λ (k : ℕ). (with_callee s.me.0 (record h { steps = k }), s.me.1)) is),
)
