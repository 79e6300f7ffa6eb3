-- Guesses stay platforms of their board.
use Rattle.std.proofs.Common.{◌≡◌, ℕ, ◌<◌, Bool, true, false, List, [], ◌∷◌, ◌++◌, length, get_or, Some, if◌then◌else◌, sym, ap, ◌∙◌, subst}
use Rattle.std.proofs.lemmas.List.Elements.{All-get_or, All-pop, All-push}
use Rattle.scmi_plan.specs.Board.{Board}
use Rattle.scmi_judge.specs.Exact.{IsOfBoard}
use Rattle.scmi_judge.specs.Guesses.{AreOfBoard, HaveBoard, KeepBoard}
use Rattle.scmi_judge.specs.Judging.{IsReady}
use Rattle.scmi_judge.specs.Window.{IsOfWindow}
use Rattle.scmi_judge.specs.declared.guess.Guess.{Guess}
use Rattle.scmi_judge.specs.declared.guesses.Guesses.{Guesses}
use Rattle.scmi_judge.specs.declared.window.Window.{Window}

pub of-popped : (board : Board) (xs ys : List Guess) (g : Guess) → xs ≡ ys ++ g ∷ []
    → IsOfBoard board xs → IsOfBoard board ys × (g.platform.board ≡ board)
of-popped board xs ys g are of =
    All-pop (λ (x : Guess). x.platform.board ≡ board) xs ys (Some g) are of

pub of-pushed : (board : Board) (xs ys : List Guess) (g : Guess) (did : Bool) → ys ≡ (if did
    then xs ++ g ∷ [] else xs) → IsOfBoard board xs → g.platform.board ≡ board → IsOfBoard board ys
of-pushed board xs ys g true are of is = subst (IsOfBoard board) (sym are)
    (All-push (λ (x : Guess). x.platform.board ≡ board) xs g of is)
of-pushed board xs ys g false are of is = subst (IsOfBoard board) (sym are) of

pub of-one : (board : Board) (xs : List Guess) (i : ℕ) (g : Guess) → g ≡ get_or xs i g
    → i < length xs → IsOfBoard board xs → g.platform.board ≡ board
of-one board xs i g is less of = ap (λ (x : Guess). x.platform.board) is
    ∙ All-get_or (λ (x : Guess). x.platform.board ≡ board) xs i g less of

pub keep-again : (a b c : Guesses) → KeepBoard a b → KeepBoard b c → KeepBoard a c
keep-again a b c first second = record {
  boards = λ board of. second.boards board
      (first.boards board of);
  unseen = second.unseen ∙ first.unseen;
}

-- of whatever board all are, a guess of their board is
pub of-their : (old : Guesses) (g : Guess) → (board : Board) × AreOfBoard board old
    × (g.platform.board ≡ board) → (board : Board) → AreOfBoard board old → g.platform.board ≡ board
of-their old g one board of = one.2 ∙ sym one.1.made ∙ of.made

-- what is made from a guess of their board is of it
pub keep-made : (old new : Guesses) (g copy made : Guess) → (board : Board) × AreOfBoard board old
    × (g.platform.board ≡ board) → copy ≡ g → made.platform.board ≡ copy.platform.board
    → KeepBoard (record old { made = made }) new → KeepBoard old new
keep-made old new g copy made one same is keeps =
    record {
      boards = λ board of.
          keeps.boards board
          (record {
            left = of.left;
            tried = of.tried;
            others = of.others;
            spare = of.spare;
            made = is ∙ ap (λ (x : Guess). x.platform.board) same ∙ of-their old g one board of;
          });
      unseen = keeps.unseen;
    }

-- a judge is ready with guesses that stay of their board, and with a window of it
pub still-ready : (sure : Bool) (old new : Guesses) (w : Window) → HaveBoard old
    → KeepBoard old new → IsOfWindow old.made.platform.board w
    → (sure ≡ true → new.tried.items ≡ []) → (sure ≡ true → new.others.items ≡ [])
    → IsReady sure new w
still-ready sure old new w have keeps of tried others =
    let now = keeps.boards have.0 have.1 in
    record {
      boards = (have.0, now);
      window = subst (λ board. IsOfWindow board w) (have.1.made ∙ sym now.made) of;
      tried = tried;
      others = others;
    }
