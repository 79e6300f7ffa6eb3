-- The faults of a board's text.
use Rattle.std.proofs.Common.{ℕ, List, refl}
use Rattle.scmi_board.specs.ValidBoard.{IsBoardFault}
use Rattle.scmi_board.specs.declared.board_error.BoardError.{BoardError}
use Rattle.scmi_board.specs.declared.board_error.BoardError.TheVariants as board
use Rattle.scmi_board.proofs.ValidBoards.{after_fails, line_fails}
use Rattle.scmi_check.specs.Check.{IsFaultOfBoard}
use Rattle.scmi_check.specs.CheckError.{error_of_board}

-- a text without a valid board
pub board_fails : (text : List ℕ) (e : BoardError) → IsBoardFault text e
    → IsFaultOfBoard text (error_of_board e)
board_fails text (board.Line line) is = line_fails text line is
board_fails text (board.After line) is = after_fails text line is
board_fails text (board.Rule rule) is = (rule, is, refl)
board_fails text board.Memory is = tt
