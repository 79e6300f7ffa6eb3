-- What contracts see of a judge of a record.
use Rattle.std.specs.Prelude.{◌≡◌, ◌+◌, Bool, true, List, [], length}
use Rattle.scmi_plan.specs.Board.{Board}
use Rattle.scmi_judge.specs.Exact.{AreExact}
use Rattle.scmi_judge.specs.Guesses.{AreDifferent, AreMany, HaveBoard}
use Rattle.scmi_judge.specs.declared.entry.Entry.{Entry}
use Rattle.scmi_judge.specs.declared.guess.Guess.{Guess}
use Rattle.scmi_judge.specs.declared.guesses.Guesses.{Guesses}
use Rattle.scmi_judge.specs.Window.{IsOfWindow}
use Rattle.scmi_judge.specs.declared.unseen.Unseen.{Unseen}
use Rattle.scmi_judge.specs.declared.window.Window.{Window}

-- the board, what may happen that no entry shows, the platforms that may be behind the entries so
-- far, the places for
-- more, and whether it still judges
pub record Judging : Type 0 where
  pub board : Board
  pub unseen : Unseen
  pub guesses : List Guess
  pub spare : List Guess
  pub sure : Bool

-- a judge that still judges has exactly the platforms that may be behind these entries, newest
-- first, and each once
pub record Knows (j : Judging) (entries : List Entry) : Type 0 where
  pub sure : j.sure ≡ true
  pub exact : AreExact j.unseen j.board entries j.guesses
  pub different : AreDifferent j.guesses

-- there are more different platforms that may be behind these entries than a judge has places
abbrev pub AreTooMany : Judging → List Entry → Type 0
AreTooMany j entries = AreMany j.unseen j.board entries (1 + length j.guesses + length j.spare)

-- guesses are of one board, with those that a window keeps; and all are left, if the judge still
-- judges
pub record IsReady (sure : Bool) (g : Guesses) (w : Window) : Type 0 where
  pub boards : HaveBoard g
  pub window : IsOfWindow g.made.platform.board w
  pub tried : sure ≡ true → g.tried.items ≡ []
  pub others : sure ≡ true → g.others.items ≡ []
