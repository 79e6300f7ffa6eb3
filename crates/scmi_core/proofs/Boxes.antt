-- One outbox of all that changed.
use Rattle.std.proofs.Common.{◌≡◌, ◌≤◌, ◌<◌, ◌+◌, ◌-◌, ◌++◌, ◌∷◌, ℕ, zero, suc, List, [], length, drop, get_or, set, inl, inr, refl, ap, ◌∙◌, arith, length-append, length-drop}
use Rattle.std.proofs.lemmas.List.{get_or-set_same, get_or-set_other, set_past}
use Rattle.std.proofs.lemmas.Bool.{cases_lt}
use Rattle.std.proofs.lemmas.Bool.Decides.{eqb_tells}
use Rattle.scmi_codec.specs.declared.message.Message.{Message}
use Rattle.scmi_core.specs.Outboxes.{outbox_in}

-- each has room, if the one that changed has
pub few_after : (outboxes : List (List Message)) (i : ℕ) (outbox : List Message)
    → length outbox ≤ 16 → ((a : ℕ) → length (outbox_in outboxes a) ≤ 16)
    → (a : ℕ) → length (outbox_in (set outboxes i outbox) a) ≤ 16
few_after outboxes i outbox small few a = elim (cases_lt i (length outboxes)) [
  | inl inside ↦ elim (eqb_tells (a - 1) i) [
    | inl same ↦ rw same.1 (rw (get_or-set_same outboxes i outbox [] inside) small)
    | inr other ↦ rw (get_or-set_other outboxes i (a - 1) outbox [] other.1) (few a)
  ]
  | inr past ↦ rw (set_past outboxes i outbox past) (few a)
]

-- an item is the same whatever the value for a missing one
same_at : (outboxes : List (List Message)) (i : ℕ) (d e : List Message) → i < length outboxes
    → get_or outboxes i d ≡ get_or outboxes i e
same_at [] i d e inside = elim inside [ ]
same_at (x ∷ xs) zero d e inside = refl
same_at (x ∷ xs) (suc i) d e inside = same_at xs i d e (omega (arith, inside))

-- an outbox with room that got a message
pub pushed : (outboxes : List (List Message)) (a : ℕ) (d new : List Message) (message : Message)
    → a - 1 < length outboxes → length (outbox_in outboxes a) < 16
    → new ≡ get_or outboxes (a - 1) d ++ message ∷ [] → length new ≤ 16
pushed outboxes a d new message inside room is =
    let same = ap length (same_at outboxes (a - 1) d [] inside) in
    let more : length new ≡ length (get_or outboxes (a - 1) d) + 1 = ap length is
    ∙ length-append (get_or outboxes (a - 1) d) (message ∷ []) in
    omega (arith, same, more, room)

-- an outbox whose first message was taken off
pub popped : (outboxes : List (List Message)) (a : ℕ) (d new : List Message)
    → a - 1 < length outboxes → length (outbox_in outboxes a) ≤ 16
    → new ≡ drop 1 (get_or outboxes (a - 1) d) → length new ≤ 16
popped outboxes a d new inside few is =
    let same = ap length (same_at outboxes (a - 1) d [] inside) in
    let less : length new ≡ length (get_or outboxes (a - 1) d) - 1 = ap length is
    ∙ length-drop 1 (get_or outboxes (a - 1) d) in
    omega (arith, same, less, few)

-- outboxes are empty if the first is and the others are
empty_more : (x : List Message) (xs : List (List Message)) → x ≡ []
    → ((i : ℕ) → get_or xs i [] ≡ []) → (i : ℕ) → get_or (x ∷ xs) i [] ≡ []
empty_more x xs first rest zero = first
empty_more x xs first rest (suc i) = rest i

-- each of eight empty outboxes
pub eight_empty : (a b c d e f g h : List Message) → a ≡ [] → b ≡ [] → c ≡ [] → d ≡ [] → e ≡ []
    → f ≡ [] → g ≡ [] → h ≡ [] → (i : ℕ) → get_or (a ∷ b ∷ c ∷ d ∷ e ∷ f ∷ g ∷ h ∷ []) i [] ≡ []
eight_empty a b c d e f g h a0 b0 c0 d0 e0 f0 g0 h0 =
    empty_more a (b ∷ c ∷ d ∷ e ∷ f ∷ g ∷ h ∷ []) a0
    (empty_more b (c ∷ d ∷ e ∷ f ∷ g ∷ h ∷ []) b0 (empty_more c (d ∷ e ∷ f ∷ g ∷ h ∷ []) c0
    (empty_more d (e ∷ f ∷ g ∷ h ∷ []) d0 (empty_more e (f ∷ g ∷ h ∷ []) e0 (empty_more f
    (g ∷ h ∷ []) f0 (empty_more g (h ∷ []) g0 (empty_more h ([]) h0 (λ i. refl))))))))
