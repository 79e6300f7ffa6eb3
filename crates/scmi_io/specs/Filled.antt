-- Texts with holes.
use Rattle.std.specs.Prelude.{ℕ, ◌==◌, Bool, List, [], ◌∷◌, ◌++◌}
use Rattle.std.specs.List.{after_first, before_first}
use Rattle.scmi_io.specs.declared.filled.TheConstants.{HOLE}

-- whether a byte of a text is a hole
abbrev pub is_hole : ℕ → Bool
is_hole byte = byte == HOLE

-- a text whose holes these pieces fill in turn, closed so that no proof goes through its bytes
unfoldable pub filled : List ℕ → List (List ℕ) → List ℕ
filled text [] = text
filled text (piece ∷ pieces) =
    before_first is_hole text ++ piece ++ filled (after_first is_hole text) pieces
