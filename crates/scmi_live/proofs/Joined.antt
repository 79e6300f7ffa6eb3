-- Pieces, joined by a byte.
use Rattle.std.proofs.Common.{◌≡◌, ℕ, ◌<◌, Bool, true, false, List, [], ◌∷◌, ◌++◌, length, Bor, map, refl, sym, ap, ◌∙◌, append_assoc, subst, arith}
use Rattle.std.specs.List.{join_with_byte}
use Rattle.std.proofs.lemmas.List.{map-append}
use Rattle.scmi_live.specs.Pieces.{with_byte}

-- one piece more behind others
pub join_more : (byte : ℕ) (pieces : List (List ℕ)) (piece : List ℕ) → 0 < length pieces
    → join_with_byte byte (pieces ++ piece ∷ []) ≡ join_with_byte byte pieces ++ byte ∷ piece
join_more byte [] piece some = absurd (omega (arith, some))
join_more byte (first ∷ []) piece some = refl
join_more byte (first ∷ next ∷ pieces) piece some =
    ap (λ v. first ++ byte ∷ v) (join_more byte (next ∷ pieces) piece (omega arith))
    ∙ sym (append_assoc first (byte ∷ join_with_byte byte (next ∷ pieces)) (byte ∷ piece))

-- the first piece
pub first_join : (byte : ℕ) (pieces : List (List ℕ)) (piece : List ℕ) → pieces ≡ []
    → join_with_byte byte (pieces ++ piece ∷ []) ≡ join_with_byte byte pieces ++ piece
first_join byte [] piece none = refl
first_join byte (p ∷ pieces) piece none = absurd cc

pub length_more : (pieces : List (List ℕ)) (piece : List ℕ) → 0 < length (pieces ++ piece ∷ [])
length_more [] piece = omega arith
length_more (p ∷ pieces) piece = omega arith

-- what some pieces become, joined, and whether they are the first of all
pub record AreJoined (byte : ℕ) (become : List ℕ → List ℕ) (pieces : List (List ℕ))
    (is_first : Bool) (made : List ℕ) : Type 0 where
  pub joined : made ≡ join_with_byte byte (map become pieces)
  pub first : is_first ≡ true → map become pieces ≡ []
  pub more : is_first ≡ false → 0 < length (map become pieces)

snoc : (become : List ℕ → List ℕ) (pieces : List (List ℕ)) (piece : List ℕ)
    → map become pieces ++ become piece ∷ [] ≡ map become (pieces ++ piece ∷ [])
snoc become pieces piece = sym (map-append become pieces (piece ∷ []))

on_piece : (byte : ℕ) (become : List ℕ → List ℕ) (pieces : List (List ℕ))
    (piece made ended new : List ℕ) (is_first : Bool) → AreJoined byte become pieces is_first made
    → ended ≡ with_byte byte is_first made → new ≡ ended ++ become piece
    → AreJoined byte become (pieces ++ piece ∷ []) false new
on_piece byte become pieces piece made ended new true so_far is_ended is_new = record {
  joined = is_new ∙ ap (λ (m : List ℕ). m ++ become piece) (is_ended ∙ so_far.joined)
      ∙ sym (first_join byte (map become pieces) (become piece) (so_far.first refl))
      ∙ ap (join_with_byte byte) (snoc become pieces piece);
  first = λ is. absurd cc;
  more = λ is. subst (λ (all : List (List ℕ)). 0 < length all) (snoc become pieces piece)
      (length_more (map become pieces) (become piece));
}
on_piece byte become pieces piece made ended new false so_far is_ended is_new = record {
  joined = is_new ∙ ap (λ (m : List ℕ). m ++ become piece) is_ended ∙ append_assoc made
      (byte ∷ []) (become piece) ∙ ap (λ (m : List ℕ). m ++ byte ∷ become piece) so_far.joined
      ∙ sym (join_more byte (map become pieces) (become piece) (so_far.more refl))
      ∙ ap (join_with_byte byte) (snoc become pieces piece);
  first = λ is. absurd cc;
  more = λ is. subst (λ (all : List (List ℕ)). 0 < length all) (snoc become pieces piece)
      (length_more (map become pieces) (become piece));
}

-- the same of pieces that are borrowed
pub on_borrowed : (byte : ℕ) (become : List ℕ → List ℕ) (pieces : List (Bor (List ℕ)))
    (piece : Bor (List ℕ)) (made ended new : List ℕ) (is_first : Bool)
    → AreJoined byte become (map (λ x. x.now) pieces) is_first made
    → ended ≡ with_byte byte is_first made → new ≡ ended ++ become piece.now
    → AreJoined byte become (map (λ x. x.now) (pieces ++ piece ∷ [])) false new
on_borrowed byte become pieces piece made ended new is_first so_far is_ended is_new =
    subst (λ (all : List (List ℕ)). AreJoined byte become all false new)
    (sym (map-append (λ (x : Bor (List ℕ)). x.now) pieces (piece ∷ []))) (on_piece byte become
    (map (λ x. x.now) pieces) piece.now made ended new is_first so_far is_ended is_new)
