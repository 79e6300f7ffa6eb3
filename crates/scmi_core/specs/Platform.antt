-- What contracts see of a controller.
use Rattle.std.specs.Prelude.{ℕ, List}
use Rattle.scmi_plan.specs.Board.{Board}
use Rattle.scmi_core.specs.declared.event.Event.{Event}

-- its board, its history, and for how many more events its trace has memory
pub record Platform : Type 0 where
  pub board : Board
  pub history : List Event
  pub room : ℕ
