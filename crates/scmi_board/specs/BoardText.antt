-- The board that a text encodes.
use Rattle.std.specs.Prelude.{◌≡◌, ℕ, ⊤, if◌then◌else◌, List, [], ◌∷◌, Option, Some, None, Result, Ok, Err}
use Rattle.std.specs.Str.{bytes_eq}
use Rattle.scmi_plan.specs.Board.{Board}
use Rattle.scmi_board.specs.Lines.{Line, LinesView, last_number, lines_left}
use Rattle.scmi_board.specs.Rows.{heading_of, with_row}
use Rattle.scmi_board.specs.declared.text_error.TextError.{TextError}
use Rattle.scmi_board.specs.declared.text_error.TextError.TheVariants as errors
use Rattle.scmi_board.specs.declared.words.TheConstants.{END}

-- what the lines up to the line `end` make of something, each by a step, and the lines after it;
-- else the number of the first line that makes nothing of it, or of the last line of the input
-- where `end` is missing
unfoldable pub lines_by : {A : Type 0} → (A → List ℕ → Option A) → ℕ → A → List Line
    → Result (A × List Line) ℕ
lines_by step last so_far [] = Err last
lines_by step last so_far (line ∷ lines) = if bytes_eq line.text END.now then Ok (so_far, lines)
    else elim (step so_far line.text) [
      | None ↦ Err line.number
      | Some more ↦ lines_by step last more lines
    ]

-- the board with the rows of these lines up to the line `end`, and the lines after it
abbrev pub rows_of : ℕ → Board → List Line → Result (Board × List Line) ℕ
rows_of last board lines = lines_by with_row last board lines

-- the board of the heading, which is the first of these lines, and the lines after it
unfoldable pub headed : ℕ → List Line → Result (Board × List Line) ℕ
headed last [] = Err last
headed last (line ∷ lines) =
    elim (heading_of line.text) [ None ↦ Err line.number | Some board ↦ Ok (board, lines) ]

-- the board of the heading that is left
abbrev pub heading_left : LinesView → Result (Board × List Line) ℕ
heading_left lines = headed (last_number lines) (lines_left lines)

-- what the lines behind a heading make of its board, each by a step
abbrev pub behind_heading : {A : Type 0} → (Board → A) → (A → List ℕ → Option A) → ℕ
    → Result (Board × List Line) ℕ → Result (A × List Line) ℕ
behind_heading start step last (Err number) = Err number
behind_heading start step last (Ok found) = lines_by step last (start found.0) found.1

-- the board of these lines, of which the first is the heading
abbrev pub board_of : ℕ → List Line → Result (Board × List Line) ℕ
board_of last lines = behind_heading (λ board. board) with_row last (headed last lines)

-- the board of the lines that are left
abbrev pub board_left : LinesView → Result (Board × List Line) ℕ
board_left lines = board_of (last_number lines) (lines_left lines)

-- a reader of a board fails so, if there is no board, by the line of this number, unless memory is
-- refused
abbrev pub FailsBoard : {Y : Type 0} → TextError → Result Y ℕ → Type 0
FailsBoard (errors.Board line) there = there ≡ Err line
FailsBoard (errors.Script line) there = ⊥
FailsBoard errors.Memory there = ⊤

-- what it gives, seen by view, is what is there
abbrev pub GivesBoard : {X Y : Type 0} → (X → Y) → Result X TextError → Result Y ℕ → Type 0
GivesBoard view (Ok value) there = there ≡ Ok (view value)
GivesBoard view (Err error) there = FailsBoard error there
