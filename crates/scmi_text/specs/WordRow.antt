-- Tables of first words, each a constant of the program, which is looked up here as there.
use Rattle.std.specs.Prelude.{ℕ, if◌then◌else◌, List, [], ◌∷◌, Option, Some, None}
use Rattle.std.specs.Borrow.{Bor}
use Rattle.std.specs.Str.{bytes_eq}
use Rattle.scmi_text.specs.declared.word_row.WordRow.{WordRow}

-- what a row says
abbrev pub said : {F : Type 0} → WordRow (Bor (List ℕ)) F → WordRow (List ℕ) F
said row = record { word = row.word.now; form = row.form }

-- the form of the first row that has this word
abbrev pub form_in : {F : Type 0} → List ℕ → List (WordRow (List ℕ) F) → Option F
form_in word [] = None
form_in word (row ∷ rows) = if bytes_eq row.word word then Some row.form else form_in word rows
