-- Texts that are made of pieces.
use Rattle.std.specs.Prelude.{ℕ, Bool, true, false, List, [], ◌∷◌, ◌++◌}

-- a text before its next piece, by the byte between two
abbrev pub with_byte : ℕ → Bool → List ℕ → List ℕ
with_byte byte true text = text
with_byte byte false text = text ++ byte ∷ []
