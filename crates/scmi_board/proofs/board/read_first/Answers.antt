use Rattle.std.proofs.Common.{Some, sym, ◌∙◌}
use Rattle.scmi_plan.specs.RawPlan.{asked_board}
use Rattle.scmi_board.specs.Lines.{last_number, line_of, lines_left}
use Rattle.scmi_board.proofs.BoardLemmas.{heading_is, heading_missing, heading_stops}
use Rattle.scmi_board.proofs.LineLemmas.{last_is}
use Rattle.scmi_board.proofs.board.read_first.Goals as goal

pub returns-in_default-clause-board : goal.returns-in_default-clause-board
returns-in_default-clause-board c =
    heading_missing (last_number c.args.lines.now) c.last_number.result
    (lines_left c.args.lines.now) c.in_default.ensures.lines (sym c.in_default.ensures.last
    ∙ last_is c.next_line.new.self.number c.next_line.new.self.rest c.in_default.ensures.end
    ∙ sym c.last_number.ensures)

pub returns-in-Err-clause-board : goal.returns-in-Err-clause-board
returns-in-Err-clause-board c =
    rw c.in_board.ensures (heading_stops
    (last_number c.args.lines.now) (lines_left c.args.lines.now) (line_of c.in-Some.first)
    (lines_left c.next_line.new.self) c.in-Err.error c.in-Some.ensures.lines c.in-Err.ensures)

pub returns-in-Ok-clause-board : goal.returns-in-Ok-clause-board
returns-in-Ok-clause-board c =
    heading_is (last_number c.args.lines.now)
    (lines_left c.args.lines.now) (line_of c.in-Some.first) (lines_left c.next_line.new.self)
    (Some (asked_board c.in-Ok.board)) c.in-Some.ensures.lines c.in-Ok.ensures
