-- Scripts with numbers in place of names.
use Rattle.std.specs.Prelude.{◌≡◌, ℕ, List, [], ◌∷◌, ◌++◌, length, Option, Some, None, Result, Ok, Err}
use Rattle.std.specs.List.{join_with_byte, slice_split}
use Rattle.scmi_board.specs.BoardLines.{Described, described_left}
use Rattle.scmi_board.specs.Lines.{Line}
use Rattle.scmi_io.specs.Lines.{is_line_feed}
use Rattle.scmi_plan.specs.Board.{Board}
use Rattle.scmi_text.specs.StepText.{hardware_step_of_line}
use Rattle.scmi_text.specs.declared.step.Step.{Step}
use Rattle.scmi_live.specs.Meant.{step_by_names}

-- a line that is a step by its numbers stays, and so does one that is none by its names; another
-- becomes a line whose numbers are the step of its names
abbrev pub IsLineBy : (numbers names : Option Step) → ℕ → (text line : List ℕ) → Type 0
IsLineBy (Some step) names agents text line = line ≡ text
IsLineBy None None agents text line = line ≡ text
IsLineBy None (Some step) agents text line = hardware_step_of_line agents line ≡ Some step

-- a line of a script, and what it becomes
abbrev pub IsLineInNumbers : Board → ℕ → (text line : List ℕ) → Type 0
IsLineInNumbers board agents text line =
    IsLineBy (hardware_step_of_line agents text) (step_by_names board agents text) agents text line

-- lines, and what each becomes
abbrev pub AreInNumbers : Board → ℕ → (texts lines : List (List ℕ)) → Type 0
AreInNumbers board agents [] [] = Unit {0}
AreInNumbers board agents (text ∷ texts) (line ∷ lines) = IsLineInNumbers board agents text line
    × AreInNumbers board agents texts lines
AreInNumbers board agents texts lines = ⊥

-- what the lines of a text become, with a line feed between each two
pub record IsInNumbersOf (board : Board) (agents : ℕ) (text made : List ℕ) : Type 0 where
  pub lines : List (List ℕ)
  pub each : AreInNumbers board agents (slice_split is_line_feed text) lines
  pub joined : made ≡ join_with_byte 10 lines

-- what a line becomes is added
pub record AddsNumbered (board : Board) (agents : ℕ) (text old new : List ℕ) : Type 0 where
  pub line : List ℕ
  pub becomes : IsLineInNumbers board agents text line
  pub added : new ≡ old ++ line

-- a script that begins with this board, or with none: that stays as it is
abbrev pub IsInNumbersBy : Result (Described × List Line) ℕ → (text made : List ℕ) → Type 0
IsInNumbersBy (Err line) text made = made ≡ text
IsInNumbersBy (Ok found) text made = IsInNumbersOf found.0.0 (length found.0.0.agents) text made

-- a board and a script of the modes `hardware`, as they follow the line of the mode, and what they
-- become
abbrev pub IsInNumbers : (text made : List ℕ) → Type 0
IsInNumbers text made =
    IsInNumbersBy (described_left (record { rest = text; number = 1 })) text made

-- a line is a step by its numbers, or none by its names, as an empty line and a comment are
abbrev pub StaysBy : (numbers names : Option Step) → Type 0
StaysBy (Some step) names = Unit {0}
StaysBy None None = Unit {0}
StaysBy None (Some step) = ⊥

-- so is each of these lines
abbrev pub AllStay : Board → ℕ → List (List ℕ) → Type 0
AllStay board agents [] = Unit {0}
AllStay board agents (text ∷ texts) = StaysBy (hardware_step_of_line agents text)
    (step_by_names board agents text) × AllStay board agents texts

-- a script that begins with this board has no line with names
abbrev pub HasNoNamesBy : Result (Described × List Line) ℕ → List ℕ → Type 0
HasNoNamesBy (Err line) text = Unit {0}
HasNoNamesBy (Ok found) text =
    AllStay found.0.0 (length found.0.0.agents) (slice_split is_line_feed text)

-- a board and a script have no line with names
abbrev pub HasNoNames : List ℕ → Type 0
HasNoNames text = HasNoNamesBy (described_left (record { rest = text; number = 1 })) text
