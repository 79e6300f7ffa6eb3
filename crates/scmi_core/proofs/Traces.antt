-- How the words of one more event follow those of a trace.
use Rattle.std.proofs.Common.{◌≡◌, ℕ, ◌+◌, ◌-◌, ◌*◌, ◌≤◌, List, [], ◌∷◌, ◌++◌, length, take, drop, zero, suc, refl, ap, subst, arith, length-append}
use Rattle.std.proofs.lemmas.List.{take-append-le, drop-append-le, take_all, drop_all, length-drop}
use Rattle.scmi_codec.specs.declared.payload.TheConstants.{PAYLOAD_WORDS}
use Rattle.scmi_core.specs.Mark.{mark_of}
use Rattle.scmi_core.specs.Trace.{AreEvents, event_of, events_of, payload_count}

-- n events are n
pub length-events_of : (n : ℕ) (words : List ℕ) → AreEvents n words → length (events_of n words) ≡ n
unfolding AreEvents events_of
length-events_of zero words are = refl
length-events_of (suc n) (first ∷ size ∷ header ∷ rest) are =
    ap suc (length-events_of n (drop (payload_count (mark_of first) size) rest) are.2)
length-events_of (suc n) [] are = elim are [ ]
length-events_of (suc n) (_ ∷ []) are = elim are [ ]
length-events_of (suc n) (_ ∷ _ ∷ []) are = elim are [ ]

-- each event has three words or more
pub AreEvents-length : (n : ℕ) (words : List ℕ) → AreEvents n words → 3 * n ≤ length words
unfolding AreEvents
AreEvents-length zero words are = omega arith
AreEvents-length (suc n) (first ∷ size ∷ header ∷ rest) are =
    let count = payload_count (mark_of first) size in
    let less = AreEvents-length n (drop count rest) are.2 in
    let all = length-drop count rest in
    omega (arith, less, all)
AreEvents-length (suc n) [] are = elim are [ ]
AreEvents-length (suc n) (_ ∷ []) are = elim are [ ]
AreEvents-length (suc n) (_ ∷ _ ∷ []) are = elim are [ ]

one_more : (n : ℕ) → suc n ≡ n + 1
one_more n = omega arith

one_less : (n : ℕ) → suc n - 1 ≡ n
one_less n = omega arith

-- there are events only if there are words
pub events_of-none : (n : ℕ) (words : List ℕ) → n ≡ 0 → events_of n words ≡ []
unfolding events_of
events_of-none zero words none = refl
events_of-none (suc n) words none = let no : ⊥ = omega (arith, none) in elim no [ ]

-- the first of some events, and the words of the others
pub first-within : (n first size header : ℕ) (rest : List ℕ) → 1 ≤ n
    → AreEvents n (first ∷ size ∷ header ∷ rest)
    → (payload_count (mark_of first) size ≤ PAYLOAD_WORDS)
    × (payload_count (mark_of first) size ≤ length rest)
unfolding AreEvents
first-within zero first size header rest some are = let no : ⊥ = omega (arith, some) in elim no [ ]
first-within (suc n) first size header rest some are = (are.0, are.1)

pub AreEvents-rest : (n first size header : ℕ) (rest : List ℕ) → 1 ≤ n → AreEvents n (first ∷ size
    ∷ header ∷ rest) → AreEvents (n - 1) (drop (payload_count (mark_of first) size) rest)
unfolding AreEvents
AreEvents-rest zero first size header rest some are =
    let no : ⊥ = omega (arith, some) in
    elim no [ ]
AreEvents-rest (suc n) first size header rest some are = rw (one_less n) are.2

pub events_of-first : (n first size header : ℕ) (rest : List ℕ) → 1 ≤ n
    → events_of n (first ∷ size ∷ header ∷ rest)
    ≡ event_of (mark_of first) size header (take (payload_count (mark_of first) size) rest)
    ∷ events_of (n - 1) (drop (payload_count (mark_of first) size) rest)
unfolding events_of
events_of-first zero first size header rest some = let no : ⊥ = omega (arith, some) in elim no [ ]
events_of-first (suc n) first size header rest some = rw (one_less n) refl

module _ (first size header : ℕ) (payload : List ℕ)
    (is : length payload ≡ payload_count (mark_of first) size) where
  events_of-suc : (n : ℕ) (words : List ℕ) → AreEvents n words
      → events_of (suc n) (words ++ first ∷ size ∷ header ∷ payload)
      ≡ events_of n words ++ event_of (mark_of first) size header payload ∷ []
  unfolding AreEvents events_of
  events_of-suc zero words are =
      rw (are, ← is, take_all (length payload) payload (omega arith)) refl
  events_of-suc (suc n) (a ∷ b ∷ c ∷ rest) are =
      let count = payload_count (mark_of a) b in
      let more = first ∷ size ∷ header ∷ payload in
      rw (take-append-le count rest more are.1, drop-append-le count rest more are.1)
      (ap (λ events. event_of (mark_of a) b c (take count rest) ∷ events)
      (events_of-suc n (drop count rest) are.2))
  events_of-suc (suc n) [] are = elim are [ ]
  events_of-suc (suc n) (_ ∷ []) are = elim are [ ]
  events_of-suc (suc n) (_ ∷ _ ∷ []) are = elim are [ ]

  AreEvents-suc : (n : ℕ) (words : List ℕ) → length payload ≤ PAYLOAD_WORDS → AreEvents n words
      → AreEvents (suc n) (words ++ first ∷ size ∷ header ∷ payload)
  unfolding AreEvents
  AreEvents-suc zero words few are =
      rw (are, ← is) (few, omega arith, drop_all (length payload) payload (omega arith))
  AreEvents-suc (suc n) (a ∷ b ∷ c ∷ rest) few are =
      let count = payload_count (mark_of a) b in
      let more = first ∷ size ∷ header ∷ payload in
      rw (drop-append-le count rest more are.1) (
        are.0,
        (let all = length-append rest more in let within = are.1 in
            omega (arith, all, within)),
        AreEvents-suc n (drop count rest) few are.2,
      )
  AreEvents-suc (suc n) [] few are = elim are [ ]
  AreEvents-suc (suc n) (_ ∷ []) few are = elim are [ ]
  AreEvents-suc (suc n) (_ ∷ _ ∷ []) few are = elim are [ ]

  -- the event of these words comes last
  pub events_of-push : (n : ℕ) (words : List ℕ) → AreEvents n words
      → events_of (n + 1) (words ++ first ∷ size ∷ header ∷ payload)
      ≡ events_of n words ++ event_of (mark_of first) size header payload ∷ []
  events_of-push n words are =
      subst (λ m. events_of m (words ++ first ∷ size ∷ header ∷ payload) ≡ events_of n words
      ++ event_of (mark_of first) size header payload ∷ []) (one_more n) (events_of-suc n words are)

  -- and nothing is after them
  pub AreEvents-push : (n : ℕ) (words : List ℕ) → length payload ≤ PAYLOAD_WORDS → AreEvents n words
      → AreEvents (n + 1) (words ++ first ∷ size ∷ header ∷ payload)
  AreEvents-push n words few are = subst (λ m. AreEvents m
      (words ++ first ∷ size ∷ header ∷ payload)) (one_more n) (AreEvents-suc n words few are)
