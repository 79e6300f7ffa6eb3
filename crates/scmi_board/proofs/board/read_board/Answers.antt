use Rattle.std.proofs.Common.{ℕ, List, Result, subst, sym, ◌∙◌}
use Rattle.std.proofs.lemmas.Result.{err_from_is_err_and}
use Rattle.scmi_plan.specs.Board.{Board}
use Rattle.scmi_board.specs.BoardText.{FailsBoard, heading_left}
use Rattle.scmi_board.specs.Lines.{Line, last_number, lines_left}
use Rattle.scmi_board.specs.Rows.{with_row}
use Rattle.scmi_board.proofs.BoardLemmas.{behind_is}
use Rattle.scmi_board.proofs.board.read_board.Goals as goal

pub returns-in_err-read_rows-clause-board : goal.returns-in_err-read_rows-clause-board
returns-in_err-read_rows-clause-board c =
    let p = err_from_is_err_and c.from_residual-in_err-read_rows.result
    c.from_residual-in_err-read_rows.ensures.1 in
    let rows = behind_is with_row (λ board. board) (last_number c.args.lines.now)
    (last_number c.read_first.new.lines) (heading_left c.args.lines.now) _ (lines_left
    c.read_first.new.lines) c.in_ok-board.ensures.board c.in_ok-board.ensures.last in
    rw (p.1, p.2) (subst (λ (there : Result (Board × List Line) ℕ).
    FailsBoard c.in_err-read_rows.field-0.0 there) (sym rows) c.in_err-read_rows.ensures)

pub returns-clause-board : goal.returns-clause-board
returns-clause-board c =
    behind_is with_row (λ board. board) (last_number c.args.lines.now)
    (last_number c.read_first.new.lines) (heading_left c.args.lines.now) _
    (lines_left c.read_first.new.lines) c.in_ok-board.ensures.board c.in_ok-board.ensures.last
    ∙ c.in_ok-read_rows.ensures
