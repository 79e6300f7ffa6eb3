use Rattle.std.proofs.Common.{List, Result, Ok, Err, IfOk}
use Rattle.std.specs.List.{All}
use Rattle.scmi_board.proofs.BoardLines.{lines-said}
use Rattle.scmi_board.specs.BoardText.{GivesBoard}
use Rattle.scmi_board.specs.BoardLines.{IsLineOf, described, described_left}
use Rattle.scmi_board.specs.Lines.{Line, LinesView, lines_left}
use Rattle.scmi_board.specs.declared.board_with_lines.BoardWithLines.{BoardWithLines}
use Rattle.scmi_board.specs.declared.text_error.TextError.{TextError}
use Rattle.scmi_modes.proofs.described.read_described.Goals as goal

-- the channels of a board that was read are of its agents
lines_of : (lines : LinesView) (rest : List Line) (r : Result BoardWithLines TextError)
    → GivesBoard (λ raw. (described raw, rest)) r (described_left lines)
    → IfOk r (λ raw. All (IsLineOf (described raw).0) (described raw).1)
lines_of lines rest (Ok raw) is = lines-said lines (described raw) rest is
lines_of lines rest (Err e) is = tt

pub returns-in-Hardware-clause-channels : goal.returns-in-Hardware-clause-channels
returns-in-Hardware-clause-channels c =
    lines_of c.args.lines.now (lines_left c.read_board_with_lines.new.lines)
    c.read_board_with_lines.result c.read_board_with_lines.ensures.board
