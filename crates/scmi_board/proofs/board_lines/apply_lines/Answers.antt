use Rattle.std.proofs.Common.{sym, subst, take, get_or, false}
use Rattle.scmi_plan.specs.Board.{Board}
use Rattle.scmi_board.specs.BoardLines.{IsLineOf}
use Rattle.scmi_board.specs.declared.board_line.BoardLine.{BoardLine}
use Rattle.scmi_board.specs.declared.board_line.BoardLine.TheVariants as said
use Rattle.scmi_board.proofs.BoardLines.{still-line}
use Rattle.scmi_board.proofs.board_lines.apply_lines.Goals as goal

pub apply_line-requires : goal.apply_line-requires
apply_line-requires c =
    let none : BoardLine = said.Channel
    (record { agent = 0; channel = record { words = 0; one_way = false; share = 0 } }) in
    let line = get_or c.args.lines.now c.lines.line-index none in
    let is = c.requires.lines c.lines.line-index none c.lines-test.true in
    record {
      line = subst (λ (board : Board). IsLineOf board line) (sym c.lines.invariant)
          (still-line c.args.plan.now (take c.lines.line-index c.args.lines.now) line is);
    }
