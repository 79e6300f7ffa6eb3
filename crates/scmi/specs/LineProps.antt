-- That lines are a board's has one proof at most, so it may be a ghost field.
use denote.Struct.Props as logic
use Rattle.scmi_plan.specs.Board.{Board, IsOnBoard}
use Rattle.scmi_plan.specs.declared.resource.Resource.{Resource}
use Rattle.scmi_plan.specs.declared.resource.Resource.TheVariants as resource
use Rattle.scmi_board.specs.BoardLines.{IsLineOf}
use Rattle.scmi_board.specs.declared.board_line.BoardLine.{BoardLine}
use Rattle.scmi_board.specs.declared.board_line.BoardLine.TheVariants as said

IsOnBoard-prop : (board : Board) (r : Resource) → IsProp (IsOnBoard board r)
IsOnBoard-prop board (resource.Domain d) = Prim.hlevel logic.props
IsOnBoard-prop board (resource.Clock c) = Prim.hlevel logic.props

pub IsLineOf-prop : (board : Board) (line : BoardLine) → IsProp (IsLineOf board line)
IsLineOf-prop board (said.Channel line) = Prim.hlevel logic.props
IsLineOf-prop board (said.Keep kept) = IsOnBoard-prop board kept
IsLineOf-prop board (said.Deny line) = Prim.hlevel logic.props
IsLineOf-prop board (said.Absent absent) = IsOnBoard-prop board absent
IsLineOf-prop board (said.Free c) = Prim.hlevel logic.props
IsLineOf-prop board (said.Protocols ids) = Prim.hlevel logic.props

pub ruleset line_props = (logic.props, IsLineOf-prop)
