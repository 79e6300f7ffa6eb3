-- What a handle holds, and after which histories.
use Rattle.std.specs.Prelude.{◌≡◌, ◌≢◌, ℕ, ◌-◌, ◌^◌, min, List, length, Option, Some, None, ⊤}
use Rattle.scmi_plan.specs.Agent.{IsNoAgent}
use Rattle.scmi_plan.specs.Board.{Board}
use Rattle.scmi_core.specs.Asked.{Asked}
use Rattle.scmi_core.specs.Standing.{Standing, StandsAfter}
use Rattle.scmi_core.specs.declared.event.Event.{Event}

-- a platform, the number of its events if they are counted, and what the program has said of the
-- hardware: each change that it made or refused, in order
pub record Held : Type 0 where
  pub platform : Standing
  pub events : Option ℕ
  pub said : List Asked

-- the board of a platform
abbrev pub board_of : Held → Board
board_of p = p.platform.board

-- the number of a history's events, if they are counted; of 2^64 and more it is 2^64 - 1
abbrev pub IsCount : Option ℕ → List Event → Type 0
IsCount None h = ⊤
IsCount (Some count) h = count ≡ min (length h) (2 ^ 64 - 1)

-- a platform is as this history leaves it, and if its events are counted, they are this many
abbrev pub StandsAt : Held → List Event → Type 0
StandsAt p h = StandsAfter p.platform h × IsCount p.events h

-- a platform is as some history leaves it
abbrev pub HasHistory : Held → Type 0
HasHistory p = (h : List Event) × StandsAt p h

-- the events of a platform are counted
abbrev pub IsCounted : Held → Type 0
IsCounted p = p.events ≢ None

-- a number is no agent's of the board
abbrev pub LacksAgent : ℕ → Held → Type 0
LacksAgent agent p = IsNoAgent (length (board_of p).agents) agent
