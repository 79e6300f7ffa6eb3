-- Texts from outside, as they are written and read again.
use Rattle.std.proofs.Common.{◌≡◌, ◌∙◌, sym, ap, refl, ℕ, ◌==◌, ◌&&◌, nat_le, Bool, true, false, if◌then◌else◌, List, [], ◌∷◌, ◌++◌, map}
use Rattle.std.specs.List.{list_all}
use Rattle.std.proofs.lemmas.Bool.{eqb-true, and_from}
use Rattle.std.proofs.lemmas.List.Folds.{list_all-append}
use Rattle.scmi_chart.specs.Escape.{escaped_byte, escaped_text, is_plain, read_text, shown_byte}
use Rattle.scmi_chart.specs.declared.escape.TheConstants.{AMPERSAND, GREATER, LESS, QUOTE, UNSHOWN}

plain-byte : (byte : ℕ) → list_all is_plain (escaped_byte byte) ≡ true
unfolding escaped_byte
plain-byte byte = by (byte == 60) (byte == 62) (byte == 38) (byte == 34)
    (nat_le 32 byte && nat_le byte 126) refl refl refl where
      by : (lt gt amp quote printable : Bool) → (byte == 60) ≡ lt → (byte == 62) ≡ gt
          → (byte == 34) ≡ quote
          → list_all is_plain
          (if lt then LESS.now else if gt then GREATER.now else if amp then AMPERSAND.now
          else if quote then QUOTE.now else if printable then byte ∷ [] else UNSHOWN ∷ []) ≡ true
      by true gt amp quote printable l g q = refl
      by false true amp quote printable l g q = refl
      by false false true quote printable l g q = refl
      by false false false true printable l g q = refl
      by false false false false true l g q = rw l (rw g (rw q refl))
      by false false false false false l g q = refl

pub plain : (bytes : List ℕ) → list_all is_plain (escaped_text bytes) ≡ true
plain [] = refl
plain (byte ∷ bytes) =
    list_all-append is_plain (escaped_byte byte) (escaped_text bytes)
    ∙ and_from _ _ (plain-byte byte) (plain bytes)

read-byte : (byte : ℕ) (rest : List ℕ)
    → read_text false (escaped_byte byte ++ rest) ≡ shown_byte byte ∷ read_text false rest
unfolding escaped_byte
read-byte byte rest = by (byte == 60) (byte == 62) (byte == 38) (byte == 34)
    (nat_le 32 byte && nat_le byte 126) refl refl refl refl refl where
      again : (character : ℕ) → byte ≡ character → shown_byte character ≡ character
          → character ∷ read_text false rest ≡ shown_byte byte ∷ read_text false rest
      again character is shows =
          ap (λ c. c ∷ read_text false rest) (sym shows ∙ ap shown_byte (sym is))

      by : (lt gt amp quote printable : Bool) → (byte == 60) ≡ lt → (byte == 62) ≡ gt
          → (byte == 38) ≡ amp → (byte == 34) ≡ quote
          → (nat_le 32 byte && nat_le byte 126) ≡ printable
          → read_text false ((if lt then LESS.now else if gt then GREATER.now else if amp
          then AMPERSAND.now else if quote then QUOTE.now else if printable then byte ∷ []
          else UNSHOWN ∷ []) ++ rest) ≡ shown_byte byte ∷ read_text false rest
      by true gt amp quote printable l g a q p = again 60 (eqb-true byte 60 l) refl
      by false true amp quote printable l g a q p = again 62 (eqb-true byte 62 g) refl
      by false false true quote printable l g a q p = again 38 (eqb-true byte 38 a) refl
      by false false false true printable l g a q p = again 34 (eqb-true byte 34 q) refl
      by false false false false true l g a q p = rw a (rw p refl)
      by false false false false false l g a q p = rw p refl

pub read_escaped : (bytes : List ℕ) → read_text false (escaped_text bytes) ≡ map shown_byte bytes
read_escaped [] = refl
read_escaped (byte ∷ bytes) = read-byte byte (escaped_text bytes)
    ∙ ap (λ more. shown_byte byte ∷ more) (read_escaped bytes)
