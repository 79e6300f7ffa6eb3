-- What is kept of a platform before a step, and the notifications that the step dropped.
use Rattle.std.specs.Prelude.{◌≡◌, ◌<◌, ◌-◌, ◌==◌, ◌&&◌, nat_le, nat_lt, ℕ, zero, suc, Bool, false, not, if◌then◌else◌, List, [], ◌∷◌, ◌++◌, length, get_or, Option, Some, None}
use Rattle.scmi_plan.specs.Agent.{IsAgent}
use Rattle.scmi_plan.specs.Board.{Board}
use Rattle.scmi_core.specs.History.{deeds, is_subscriber_after, outbox, value_after}
use Rattle.scmi_core.specs.Pending.{pending_sets}
use Rattle.scmi_core.specs.Value.{State}
use Rattle.scmi_core.specs.declared.event.Event.{Event}
use Rattle.scmi_core.specs.declared.pending_set.PendingSet.{PendingSet}
use Rattle.scmi_modes.specs.declared.standing.Dropped.{Dropped}
use Rattle.scmi_modes.specs.declared.standing.Standing.{Standing}

-- for whom the first of these sets wants a delayed response
abbrev pub responds_to : List PendingSet → Option ℕ
responds_to [] = None
responds_to (set ∷ sets) = if set.wanted then Some set.agent else None

-- whether a delayed response is for agent a
abbrev pub is_for : Option ℕ → ℕ → Bool
is_for None a = false
is_for (Some b) a = b == a

-- how many delayed responses were made for agent a since the first pending set wanted one for this
-- agent: one if fewer sets are pending now, so that this one has completed
abbrev pub responses_after : Option ℕ → (before now : ℕ) → ℕ → ℕ
responses_after to before now a = if nat_lt now before && is_for to a then 1 else 0

-- this is kept of a platform with this board after a history
pub record IsStandingAfter (board : Board) (h : List Event) (s : Standing) : Type 0 where
  pub states : (d : ℕ) → d < length board.domains
      → get_or s.states d 0 ≡ value_after board (State d) h
  pub outboxes : (a : ℕ) → IsAgent (length board.agents) a
      → get_or s.waiting (a - 1) 0 ≡ length (outbox board a h)
  pub pending : s.pending ≡ length (pending_sets board (deeds board h))
  pub first : s.responds_to ≡ responds_to (pending_sets board (deeds board h))

-- how many delayed responses were made for agent a between two histories
abbrev pub responses_between : Board → (before now : List Event) → ℕ → ℕ
responses_between board before now a =
    responses_after (responds_to (pending_sets board (deeds board before))) (length
    (pending_sets board (deeds board before))) (length (pending_sets board (deeds board now))) a

-- whether a notification was dropped, by the domain's state before and now, whether the agent is
-- notified of its changes, and how many messages waited before, how many wait now, and how many of
-- these are delayed responses made since
abbrev pub is_lost : (before now : ℕ) → Bool → (waited waits responses : ℕ) → Bool
is_lost before now subscribed waited waits responses =
    not (now == before) && subscribed && nat_le (waits - responses) waited

-- whether the notification of domain d's state for agent a was dropped between two histories
abbrev pub is_dropped : Board → (before now : List Event) → (a d : ℕ) → Bool
is_dropped board before now a d =
    is_lost (value_after board (State d) before) (value_after board (State d) now)
    (is_subscriber_after board a d now)
    (length (outbox board a before)) (length (outbox board a now))
    (responses_between board before now a)

-- whether it was dropped since this was kept
abbrev pub is_dropped_since : Board → Standing → List Event → (a d : ℕ) → Bool
is_dropped_since board s now a d =
    is_lost (get_or s.states d 0) (value_after board (State d) now)
    (is_subscriber_after board a d now)
    (get_or s.waiting (a - 1) 0) (length (outbox board a now))
    (responses_after s.responds_to s.pending (length (pending_sets board (deeds board now))) a)

-- the notification of domain d's state for agent a, if it was dropped
abbrev pub dropped_at : ((a d : ℕ) → Bool) → (a d : ℕ) → List Dropped
dropped_at dropped a d = if dropped a d then record { agent = a; domain = d } ∷ [] else []

-- the notifications of the first domains, this many, for agent a that were dropped
abbrev pub dropped_for : ((a d : ℕ) → Bool) → ℕ → ℕ → List Dropped
dropped_for dropped a zero = []
dropped_for dropped a (suc d) = dropped_for dropped a d ++ dropped_at dropped a d

-- those of this many domains for the first agents, this many
abbrev pub dropped_of : ((a d : ℕ) → Bool) → (domains agents : ℕ) → List Dropped
dropped_of dropped domains zero = []
dropped_of dropped domains (suc a) =
    dropped_of dropped domains a ++ dropped_for dropped (suc a) domains

-- the notifications that were dropped between two histories of a platform with this board, by
-- rising agent and domain
abbrev pub dropped_between : Board → (before now : List Event) → List Dropped
dropped_between board before now =
    dropped_of (is_dropped board before now) (length board.domains) (length board.agents)
