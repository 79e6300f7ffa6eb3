use Rattle.std.proofs.Common.{sym, ◌∙◌}
use Rattle.scmi_board.specs.BoardText.{lines_by}
use Rattle.scmi_board.specs.Lines.{last_number, line_of, lines_left}
use Rattle.scmi_board.specs.BoardLines.{described, with_line}
use Rattle.scmi_board.proofs.BoardLemmas.{lines_end, lines_go_on, lines_missing, lines_stop}
use Rattle.scmi_board.proofs.LineLemmas.{last_is}
use Rattle.scmi_board.proofs.board_with_lines.read_lines.Goals as goal

pub returns-then-eq : goal.returns-then-eq
returns-then-eq c =
    lines_end with_line (last_number c.args.lines.now) (described c.loop-line.board)
    (lines_left c.loop-line.lines) (line_of c.in-Some.line) (lines_left c.next_line.new.self) _
    c.in-Some.ensures.lines (sym c.if-eq.ensures) c.loop-line.invariant.so_far

pub returns-in-Err : goal.returns-in-Err
returns-in-Err c =
    rw c.in_board.ensures (lines_stop with_line (last_number c.args.lines.now)
    (described c.loop-line.board) (lines_left c.loop-line.lines) (line_of c.in-Some.line)
    (lines_left c.next_line.new.self) (lines_by with_line (last_number c.args.lines.now)
    (described c.args.board.now) (lines_left c.args.lines.now)) c.in-Err.error
    c.in-Some.ensures.lines (sym c.if-eq.ensures) c.in-Err.ensures c.loop-line.invariant.so_far)

pub loop-line-preserved : goal.loop-line-preserved
loop-line-preserved c = record {
  so_far = lines_go_on with_line (last_number c.args.lines.now) (described c.loop-line.board)
      (described c.add_line.new.board) (lines_left c.loop-line.lines) (line_of c.in-Some.line)
      (lines_left c.next_line.new.self) (lines_by with_line (last_number c.args.lines.now)
      (described c.args.board.now) (lines_left c.args.lines.now)) c.in-Some.ensures.lines
      (sym c.if-eq.ensures) c.in_default-add_line.ensures c.loop-line.invariant.so_far;
  last = c.in-Some.ensures.last ∙ c.loop-line.invariant.last;
}

pub returns : goal.returns
returns c =
    lines_missing with_line (last_number c.args.lines.now) (described c.loop-line.board)
    (lines_left c.loop-line.lines) c.last_number.result (lines_by with_line
    (last_number c.args.lines.now) (described c.args.board.now) (lines_left c.args.lines.now))
    c.in_default.ensures.lines (sym c.loop-line.invariant.last ∙ sym c.in_default.ensures.last
    ∙ last_is c.next_line.new.self.number c.next_line.new.self.rest c.in_default.ensures.end
    ∙ sym c.last_number.ensures) c.loop-line.invariant.so_far
