-- What one agent's command is to another agent, and what each other event is to an agent.
use Rattle.std.specs.Prelude.{◌≡◌, ◌≢◌, ◌⊎◌, ℕ, true, List, [], ◌∷◌, ◌++◌, map, Option, None, Some, unwrap_or, IfSome}
use Rattle.std.specs.Option.{option_and_then, option_to_list}
use Rattle.scmi_codec.specs.declared.message.Message.{Message}
use Rattle.scmi_plan.specs.Board.{Board}
use Rattle.scmi_plan.specs.declared.resource.Resource.{Resource}
use Rattle.scmi_plan.specs.declared.scope.Scope.{Scope}
use Rattle.scmi_plan.specs.declared.effect.Effect.{Effect}
use Rattle.scmi_core.specs.declared.event.Event.{Event}
use Rattle.scmi_codec.specs.declared.fault.Fault.{Fault}
use Rattle.scmi_core.specs.declared.pending_set.PendingSet.{PendingSet}
use Rattle.scmi_core.specs.Agents.{answers_to}
use Rattle.scmi_core.specs.History.{deeds}
use Rattle.scmi_core.specs.Laws.{may_after}
use Rattle.scmi_core.specs.Outbox.{failed_response_for, made_in, response_for, situation_after, state_changed}
use Rattle.scmi_core.specs.Pending.{has_set_of, promoted, settled, unwanted}
use Rattle.scmi_core.specs.Situation.{Situation, has_room}
use Rattle.scmi_core.specs.Value.{Change, State, Thing, change_reported, completion, value_in}

-- the situation of agent b after a history
abbrev pub situation_of : Board → ℕ → List Event → Situation
situation_of board b h = situation_after board b (deeds board h)

-- two situations of agent b are alike in all that its answers depend on, besides the board
pub record AreSeenAlike (board : Board) (b : ℕ) (s u : Situation) : Type 0 where
  -- the value of each domain and clock
  pub value : (x : Thing) → s.value x ≡ u.value x
  -- what the agent may do
  pub allowed : (device : ℕ) (scope : Scope) → s.allowed device scope ≡ u.allowed device scope
  -- whether a domain or clock has a pending set, whoever asked for it
  pub busy : (r : Resource) → has_set_of r s.pending ≡ has_set_of r u.pending
  -- whether a set of its own has room, by the 8 of all agents, its share of them, and the 16 of its
  -- own with its outbox
  pub room : has_room board b s ≡ has_room board b u

-- agent b sees the same after two histories
abbrev pub SeesTheSame : Board → ℕ → (h k : List Event) → Type 0
SeesTheSame board b h k = AreSeenAlike board b (situation_of board b h) (situation_of board b k)

-- an agent that asked for notifications of domain d is notified of the new state that agent a gave
-- it
pub record IsNotified (a d : ℕ) (s t : Situation) : Type 0 where
  pub subscribed : s.subscribed d ≡ true
  pub new : t.value (State d) ≢ s.value (State d)
  pub message : t.outbox ≡ s.outbox ++ state_changed a d (t.value (State d)) ∷ []

-- the value of a thing after a change, if there is one
abbrev pub value_with : Option Change → Thing → ℕ → ℕ
value_with change x old = unwrap_or (option_and_then (value_in x) change) old

-- all that a command of agent a after history h may change of another agent's situation s, which is
-- then t
pub record ReachesOnly (board : Board) (h : List Event) (a : ℕ) (s t : Situation) : Type 0 where
  -- a change that agent a makes, and may make, if there is one
  pub change : Option Change
  pub may : IfSome change (λ it. (it.causer ≡ a) × (may_after board h a it.thing ≡ true))
  -- the values, by that change
  pub value : (x : Thing) → t.value x ≡ value_with change x (s.value x)
  -- permissions, only if it is the trusted agent
  pub allowed : a ≢ board.trusted
      → (device : ℕ) (scope : Scope) → t.allowed device scope ≡ s.allowed device scope
  -- requests for notifications, only if it is the trusted agent
  pub subscribed : a ≢ board.trusted → (d : ℕ) → t.subscribed d ≡ s.subscribed d
  -- a set of agent a, if there is one
  pub set : Option PendingSet
  pub own : IfSome set (λ p. p.agent ≡ a)
  -- the pending sets, by that set after all others
  pub pending : t.pending ≡ s.pending ++ option_to_list set
  -- the outbox, by one notification
  pub outbox : (t.outbox ≡ s.outbox) ⊎ ((d : ℕ) × IsNotified a d s t)

-- after one more event agent b's situation is changed by no more than a command of agent a may
abbrev pub Reaches : Board → List Event → Event → ℕ → ℕ → Type 0
Reaches board h event a b =
    ReachesOnly board h a (situation_of board b h) (situation_of board b (h ++ event ∷ []))

-- WHAT EACH OTHER EVENT IS TO AN AGENT

-- what an agent may do, and of which domains it is notified, is as it was
pub record KeepsRights (s t : Situation) : Type 0 where
  pub allowed : (device : ℕ) (scope : Scope) → t.allowed device scope ≡ s.allowed device scope
  pub subscribed : (d : ℕ) → t.subscribed d ≡ s.subscribed d

-- the first pending set completes, as agent b in situation s sees it, which is then t
pub record SeesCompletion (b : ℕ) (s t : Situation) : Type 0 where
  pub set : PendingSet
  -- that set is gone, and the others stay in order
  pub pending : s.pending ≡ set ∷ t.pending
  -- its domain or clock has the value that it set, and everything else the value that it had
  pub value : (x : Thing) → t.value x ≡ value_with (Some (completion set)) x (s.value x)
  pub rights : KeepsRights s t
  -- the agent gets the delayed response, if the set is its own and it wants one
  pub answered : List Message
  pub answer : answered ≡ s.outbox ++ response_for b set
  -- and then at most one notification, of the state that the set gave
  pub outbox : (t.outbox ≡ answered)
      ⊎ ((d : ℕ) × IsNotified set.agent d (record s { outbox = answered }) t)

-- the first pending set ends as failed with this fault, as agent b in situation s sees it, which is
-- then t
pub record SeesFailure (b : ℕ) (fault : Fault) (s t : Situation) : Type 0 where
  pub set : PendingSet
  -- that set is gone, and the others stay in order
  pub pending : s.pending ≡ set ∷ t.pending
  -- no value is changed
  pub value : (x : Thing) → t.value x ≡ s.value x
  pub rights : KeepsRights s t
  -- the agent gets the delayed response with the status of the fault, if the set is its own and it
  -- wants one
  pub outbox : t.outbox ≡ s.outbox ++ failed_response_for b fault set

-- agent a restarts, as agent b in situation s sees it, which is then t
pub record SeesRestart (board : Board) (a b : ℕ) (s t : Situation) : Type 0 where
  -- no more than that agent a wants no delayed response to its pending sets
  pub moved : t ≡ record s { pending = map (unwanted a) s.pending }
  -- on which no answer depends
  pub alike : AreSeenAlike board b s t

-- the pending set at a place goes before the others, as agent b in situation s sees it, which is
-- then t
pub record SeesPromotion (board : Board) (place b : ℕ) (s t : Situation) : Type 0 where
  -- no more than another order of the pending sets
  pub moved : t ≡ record s { pending = promoted place s.pending }
  -- on which no answer depends
  pub alike : AreSeenAlike board b s t

-- the pending set of a clock gets another rate, as agent b in situation s sees it, which is then t
pub record SeesSettling (board : Board) (clock rate b : ℕ) (s t : Situation) : Type 0 where
  -- no more than what that set gives the clock
  pub moved : t ≡ record s { pending = map (settled clock rate) s.pending }
  -- on which no answer depends
  pub alike : AreSeenAlike board b s t

-- the hardware reports a change that it made by itself, as agent b in situation s sees it, which is
-- then t
pub record SeesReport (b : ℕ) (effect : Effect) (s t : Situation) : Type 0 where
  -- its domain or clock has the value that it says, and everything else the value that it had
  pub value : (x : Thing) → t.value x ≡ value_with (Some (change_reported effect)) x (s.value x)
  pub rights : KeepsRights s t
  -- each set stays pending
  pub pending : t.pending ≡ s.pending
  -- the agent gets what that change makes for it
  pub made : t.outbox ≡ s.outbox ++ made_in b s s.pending None (Some (change_reported effect))
  -- which is at most one notification, of the state that was reported, with the platform, 0, as
  -- causer
  pub outbox : (t.outbox ≡ s.outbox) ⊎ ((d : ℕ) × IsNotified 0 d s t)

-- one more event gives no answer to agent b
abbrev pub IsUnanswered : Board → List Event → Event → ℕ → Type 0
IsUnanswered board h event b = answers_to board b (h ++ event ∷ []) ≡ answers_to board b h
