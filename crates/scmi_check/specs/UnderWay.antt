-- A check under way: the lines that were read, and what was found of them.
use Rattle.std.specs.Prelude.{◌≡◌, ◌++◌, ℕ, true, if◌then◌else◌, List, [], ◌∷◌, length, Option, None, Some, Ok, ⊤}
use Rattle.scmi_board.specs.Lines.{Line, is_significant}
use Rattle.scmi_plan.specs.Board.{Board}
use Rattle.scmi_judge.specs.declared.unseen.Unseen.{Unseen}
use Rattle.scmi_text.specs.TextLines.{after_each_line}
use Rattle.scmi_check.specs.Listener.{Grows}
use Rattle.scmi_check.specs.Progress.{AreBeingJudged}
use Rattle.scmi_check.specs.RecordText.{AreMeant, Shows, onto, shows_of, with_line}
use Rattle.scmi_check.specs.declared.check_error.CheckError.{CheckError}
use Rattle.scmi_check.specs.declared.check_error.CheckError.TheVariants as error
use Rattle.scmi_check.specs.declared.judged.Judged.{Judged}
use Rattle.scmi_check.specs.declared.note.Note.{Note}
use Rattle.scmi_check.specs.declared.record.Placed.{Placed}
use Rattle.scmi_check.specs.declared.under_way.Check.{Check}

-- what lines show, of which these entries were judged and these notes given before
pub record IsUnderWay (may : Unseen) (board : Board) (all : Shows) (judged : List Judged)
    (notes : List Note) (c : Check) : Type 0 where
  pub placed : List Placed
  pub agents_are : c.agents ≡ length board.agents
  pub all_is : all ≡ onto placed notes (shows_of c.so_far)
  pub none_left : (shows_of c.so_far).entries ≡ []
  pub none_noted : (shows_of c.so_far).left.notes ≡ []
  pub judging : AreBeingJudged may board placed judged c.progress

-- what lines show more is found and given to the listener
pub record IsTold (may : Unseen) (board : Board) (all : Shows) (judged : List Judged)
    (notes : List Note) (new : Check) (before after : Option (List Judged))
    (noted now : Option (List Note)) : Type 0 where
  pub more : List Judged
  pub remarks : List Note
  pub way : IsUnderWay may board all (judged ++ more) (notes ++ remarks) new
  pub given : Grows before after more
  pub told : Grows noted now remarks

-- the same of a line that can be there
pub record AddsLine (may : Unseen) (board : Board) (all : Shows) (judged : List Judged)
    (notes : List Note) (line : Line) (new : Check) (before after : Option (List Judged))
    (noted now : Option (List Note)) : Type 0 where
  pub next : Shows
  pub makes : with_line (length board.agents) all line ≡ Some next
  pub is_told : IsTold may board next judged notes new before after noted now

-- the line, if it counts
abbrev pub if_counts : Line → List Line
if_counts line = if is_significant line.text then line ∷ [] else []

-- the same of lines, and of what is read in their places
pub record AddsLines (Means : List ℕ → List ℕ → Type 0) (may : Unseen) (board : Board)
    (all : Shows) (judged : List Judged) (notes : List Note) (lines : List Line) (new : Check)
    (before after : Option (List Judged)) (noted now : Option (List Note)) : Type 0 where
  pub givens : List Line
  pub meant : AreMeant Means lines givens
  pub next : Shows
  pub makes : after_each_line (with_line (length board.agents)) all givens ≡ Ok next
  pub is_told : IsTold may board next judged notes new before after noted now

-- why a line is not added: it can't be there, or memory or the output fails
abbrev pub IsStop : Option Shows → ℕ → CheckError → Type 0
IsStop made number (error.Record line) = (made ≡ None) × (line ≡ number)
IsStop made number error.Memory = ⊤
IsStop made number error.Write = ⊤
IsStop made number _ = ⊥

-- the same of what is read in the place of a line
abbrev pub IsStopBy : (List ℕ → List ℕ → Type 0) → Board → Shows → Line → CheckError → Type 0
IsStopBy Means board all line (error.Record number) =
    (given : List ℕ) × Means line.text given × (is_significant line.text ≡ true)
    × (with_line (length board.agents) all (record { number = line.number; text = given }) ≡ None)
    × (number ≡ line.number)
IsStopBy Means board all line error.Memory = ⊤
IsStopBy Means board all line error.Write = ⊤
IsStopBy Means board all line _ = ⊥
