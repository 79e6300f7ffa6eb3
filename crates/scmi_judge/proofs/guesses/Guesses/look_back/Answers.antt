use Rattle.std.proofs.Common.{sym, subst}
use Rattle.scmi_judge.specs.Exact.{IsOfBoard}
use Rattle.scmi_judge.proofs.guesses.Guesses.look_back.Goals as goal

pub begin-requires : goal.begin-requires
begin-requires c =
    let board = c.requires.boards.0 in
    let of = c.requires.boards.2 in
    let left = (c.explain.ensures.keeps.boards board c.requires.boards.1).left in (
      board,
      record { before = of.before; between = of.between },
      subst (IsOfBoard board) (sym c.deref.ensures.value) left,
    )

pub returns-clause-window : goal.returns-clause-window
returns-clause-window c = λ board of. c.begin.ensures.boards board
    (record { before = of.before; between = of.between })
