-- The lines of a board that say more of it leave its agents as they are.
use Rattle.std.proofs.Common.{◌≡◌, ◌∙◌, List, [], ◌∷◌, refl}
use Rattle.scmi_board.specs.BoardLines.{with_board_line, with_lines}
use Rattle.scmi_board.specs.declared.board_line.BoardLine.{BoardLine}
use Rattle.scmi_board.specs.declared.board_line.BoardLine.TheVariants.{Channel, Keep, Deny, Absent, Free, Protocols}
use Rattle.scmi_plan.specs.Board.{Board}

line_agents : (board : Board) (line : BoardLine)
    → (with_board_line board line).agents ≡ board.agents
line_agents board (Channel line) = refl
line_agents board (Keep resource) = refl
line_agents board (Deny line) = refl
line_agents board (Absent resource) = refl
line_agents board (Free clock) = refl
line_agents board (Protocols ids) = refl

pub agents_kept : (board : Board) (lines : List BoardLine)
    → (with_lines board lines).agents ≡ board.agents
agents_kept board [] = refl
agents_kept board (line ∷ lines) = agents_kept (with_board_line board line) lines
    ∙ line_agents board line
