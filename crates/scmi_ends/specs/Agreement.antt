-- What ties the platform's endpoints to its history, between any two of its calls.
use Rattle.std.specs.Prelude.{◌≡◌, ℕ, ◌≤◌, List, length, map, take, Option, Some, None, is_some}
use Rattle.scmi_codec.specs.declared.frame.Frame.TheVariants.{Good}
use Rattle.scmi_link.specs.View.{CallerView, CalleeView}
use Rattle.scmi_plan.specs.Board.{Board}
use Rattle.scmi_core.specs.Agents.{frames_of, answers_to}
use Rattle.scmi_core.specs.History.{delivered_messages}
use Rattle.scmi_core.specs.Legal.{IsLegal}
use Rattle.scmi_core.specs.declared.event.Event.{Event}
use Rattle.scmi_ends.specs.Each.{AllFrom}
use Rattle.scmi_ends.specs.ControllerView.{ControllerView}

-- the end of agent a's A2P channel has taken that agent's commands, and answered each as the
-- history says
pub record IsServed (board : Board) (h : List Event) (a : ℕ) (callee : CalleeView) : Type 0 where
  pub taken : callee.taken ≡ frames_of a h
  pub answered : callee.answered ≡ answers_to board a h

-- the end of agent a's P2A channel has posted the messages that are delivered to that agent
abbrev pub IsDelivered : Board → List Event → ℕ → CallerView → Type 0
IsDelivered board h a caller = caller.posted ≡ map Good (delivered_messages board a h)

-- no command of agent a is executed after these many events, if it has such a number
abbrev pub ExecutesNoneAfter : List Event → ℕ → Option ℕ → Type 0
ExecutesNoneAfter h a None = Unit {0}
ExecutesNoneAfter h a (Some events) = (events ≤ length h)
    × (frames_of a h ≡ frames_of a (take events h))

-- each end of A2P that the platform has closed has its place in the history, and no command of that
-- agent is executed after it
pub record StayShut (h : List Event) (callees : List CalleeView)
    (closed_at : List (Option ℕ)) : Type 0 where
  pub places : map (λ callee. callee.closed) callees ≡ map is_some closed_at
  pub none_after : AllFrom (ExecutesNoneAfter h) 1 closed_at

-- the history is legal, and each agent's endpoints have done what it gives
pub record EndsAgree (board : Board) (h : List Event) (callees : List CalleeView)
    (callers : List CallerView) (closed_at : List (Option ℕ)) : Type 0 where
  pub legal : IsLegal board h
  pub callees_count : length callees ≡ length board.agents
  pub callers_count : length callers ≡ length board.agents
  pub closed_at_count : length closed_at ≡ length board.agents
  pub served : AllFrom (IsServed board h) 1 callees
  pub delivers : AllFrom (IsDelivered board h) 1 callers
  pub shut : StayShut h callees closed_at

-- the same of the platform's side as a whole
abbrev pub IsInStep : ControllerView → Type 0
IsInStep platform =
    EndsAgree platform.board platform.history platform.callees platform.callers platform.closed_at
