-- What contracts see of a platform that keeps no history.
use Rattle.std.specs.Prelude.{List, [], ◌∷◌, ◌++◌}
use Rattle.scmi_plan.specs.Board.{Board}
use Rattle.scmi_core.specs.declared.event.Event.{Event}
use Rattle.scmi_core.specs.declared.tables.Tables.{Tables}
use Rattle.scmi_core.specs.Agreement.{Agrees}

-- its board, and its tables
pub record Standing : Type 0 where
  pub board : Board
  pub tables : Tables

-- a platform is as this history leaves it: what it will answer is what the definitions give after
-- that history
abbrev pub StandsAfter : Standing → List Event → Type 0
StandsAfter p h = Agrees p.board p.tables h

-- an event moves a platform on, whatever history it comes after
abbrev pub MovesOn : Standing → Event → Standing → Type 0
MovesOn p event new = (h : List Event) → StandsAfter p h → StandsAfter new (h ++ event ∷ [])

-- a platform is as some history leaves it
abbrev pub HasHistory : Standing → Type 0
HasHistory p = (h : List Event) × StandsAfter p h
