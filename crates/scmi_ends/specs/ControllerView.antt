-- What a contract sees of the platform's side, whatever its channels are made of.
use Rattle.std.specs.Prelude.{◌≡◌, ℕ, ◌-◌, List, Option, None, slice_index_or}
use Rattle.scmi_link.specs.View.{CallerView, CalleeView, new_caller, new_callee}
use Rattle.scmi_plan.specs.Board.{Board}
use Rattle.scmi_core.specs.declared.event.Event.{Event}

-- the history of the platform, for how many more events there is room, what it has done at its
-- endpoints of each agent's channels, and their names
pub record ControllerView : Type 0 where
  pub board : Board
  pub history : List Event
  pub room : ℕ  -- for how many more events its trace has memory
  pub callees : List CalleeView  -- its end of each agent's A2P
  pub callers : List CallerView  -- its end of each agent's P2A
  pub closed_at : List (Option ℕ)  -- after how many events it closed each agent's A2P, if it has
  pub a2p_identities : List (List ℕ)
  pub p2a_identities : List (List ℕ)

-- the platform's endpoints are those of the channels with these names, in order
pub record IsOfLinks (a2p_identities p2a_identities : List (List ℕ))
    (platform : ControllerView) : Type 0 where
  pub of_a2p : platform.a2p_identities ≡ a2p_identities
  pub of_p2a : platform.p2a_identities ≡ p2a_identities

-- the platform's end of agent a's A2P channel
abbrev pub callee_of : ControllerView → ℕ → CalleeView
callee_of platform a = slice_index_or platform.callees (a - 1) new_callee

-- the platform's end of agent a's P2A channel
abbrev pub caller_of : ControllerView → ℕ → CallerView
caller_of platform a = slice_index_or platform.callers (a - 1) new_caller

-- after how many events the platform closed agent a's A2P channel, if it has
abbrev pub closed_at_of : ControllerView → ℕ → Option ℕ
closed_at_of platform a = slice_index_or platform.closed_at (a - 1) None
