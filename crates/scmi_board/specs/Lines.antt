-- The lines of an input.
use Rattle.std.specs.Prelude.{ℕ, ◌+◌, ◌-◌, ◌^◌, ◌==◌, ◌&&◌, min, nat_lt, not, Bool, if◌then◌else◌, List, [], ◌∷◌, length, slice_index, Option, Some, None}
use Rattle.std.specs.List.{onto_first}
use Rattle.scmi_board.specs.declared.lines.TextLine.{TextLine}

-- whether a line is neither empty nor begins with `#`
abbrev pub is_significant : List ℕ → Bool
is_significant text = nat_lt 0 (length text) && not (slice_index text 0 == 35)

-- what is left of an input, and the number of the line that was read last
pub record LinesView : Type 0 where
  pub rest : List ℕ
  pub number : ℕ

-- all lines of a text, numbered from 1
abbrev pub whole : List ℕ → LinesView
whole text = record { rest = text; number = 0 }

-- the lines of a text, each without the line feed that ends it; the last may lack one
unfoldable pub lines_of : List ℕ → List (List ℕ)
lines_of [] = []
lines_of (byte ∷ rest) = if byte == 10 then [] ∷ lines_of rest else onto_first byte (lines_of rest)

-- a line with its number in the whole input
pub record Line : Type 0 where
  pub number : ℕ
  pub text : List ℕ

-- a line of a text, as its number and its bytes
abbrev pub line_of : TextLine → Line
line_of line = record { number = line.number; text = line.text.now }

-- the number of the line behind one of this number; the numbers stay at 2^32 - 1 once they are
-- there
abbrev pub number_behind : ℕ → ℕ
number_behind number = min (number + 1) (2 ^ 32 - 1)

-- the lines that count, behind a line of this number
unfoldable pub lines_behind : ℕ → List (List ℕ) → List Line
lines_behind number [] = []
lines_behind number (text ∷ texts) =
    let others = lines_behind (number_behind number) texts in
    if is_significant text
    then record { number = number_behind number; text = text } ∷ others else others

-- the number of the last line, behind a line of this number
unfoldable pub last_behind : ℕ → List (List ℕ) → ℕ
last_behind number [] = number
last_behind number (text ∷ texts) = last_behind (number_behind number) texts

-- the lines that are left and count
abbrev pub lines_left : LinesView → List Line
lines_left lines = lines_behind lines.number (lines_of lines.rest)

-- the number of the first of these lines, if there is one
abbrev pub first_number_in : List Line → Option ℕ
first_number_in [] = None
first_number_in (line ∷ lines) = Some line.number

-- the number of the last line of the input
abbrev pub last_number : LinesView → ℕ
last_number lines = last_behind lines.number (lines_of lines.rest)
