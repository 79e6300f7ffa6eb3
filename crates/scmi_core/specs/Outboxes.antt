-- The outboxes of all agents.
use Rattle.std.specs.Prelude.{◌≡◌, ◌++◌, ℕ, ◌-◌, ◌≤◌, List, [], length, get_or}
use Rattle.scmi_codec.specs.declared.message.Message.{Message}
use Rattle.scmi_plan.specs.declared.limits.TheConstants.{AGENTS}
use Rattle.scmi_core.specs.declared.outboxes.TheConstants.{OUTBOX_ROOM}

-- the outbox of agent a, of agents that are numbered from 1
abbrev pub outbox_in : List (List Message) → ℕ → List Message
outbox_in outboxes a = get_or outboxes (a - 1) []

-- there is an outbox for each agent, with at most 16 messages (own)
pub record AreOutboxes (outboxes : List (List Message)) : Type 0 where
  pub each : length outboxes ≡ AGENTS
  pub few : (a : ℕ) → length (outbox_in outboxes a) ≤ OUTBOX_ROOM

-- an agent's outbox got these messages after the others, and only these
abbrev pub Gets : List (List Message) → List (List Message) → ℕ → List Message → Type 0
Gets outboxes new a messages = outbox_in new a ≡ outbox_in outboxes a ++ messages

-- an agent's outbox is what it was
abbrev pub HasSameOutbox : List (List Message) → List (List Message) → ℕ → Type 0
HasSameOutbox outboxes new a = outbox_in new a ≡ outbox_in outboxes a
