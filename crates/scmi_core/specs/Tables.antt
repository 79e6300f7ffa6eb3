-- The tables of a controller, and the situations that they say.
use Rattle.std.specs.Prelude.{◌≡◌, ℕ, true, List, length, ◌<◌, ◌≤◌}
use Rattle.scmi_codec.specs.declared.message.Message.{Message}
use Rattle.scmi_plan.specs.Board.{Board, is_free}
use Rattle.scmi_plan.specs.declared.resource.Resource.TheVariants as resource
use Rattle.scmi_base.specs.Permission.{is_allowed}
use Rattle.scmi_power.specs.PowerTable.{is_subscribed, state_at}
use Rattle.scmi_clock.specs.ClockTable.{rate_at, enabled_at}
use Rattle.scmi_core.specs.declared.pending_set.PendingSet.{PendingSet}
use Rattle.scmi_core.specs.declared.tables.Tables.{Tables}
use Rattle.scmi_core.specs.Value.{Enabled, Rate, State, Thing, bit_value, completion}
use Rattle.scmi_core.specs.Outboxes.{outbox_in}
use Rattle.scmi_core.specs.Pending.{has_set_of, load_beside}
use Rattle.scmi_core.specs.Situation.{Situation}

-- an agent's outbox
abbrev pub outbox_at : Tables → ℕ → List Message
outbox_at t a = outbox_in t.outboxes a

-- the length of an agent's outbox and its pending sets together
abbrev pub load_at : Tables → ℕ → ℕ
load_at t a = load_beside (length (outbox_at t a)) a t.pending

-- a thing's value in the tables
abbrev pub value_at : Tables → Thing → ℕ
value_at t (State d) = state_at t.power d
value_at t (Rate c) = rate_at t.clocks c
value_at t (Enabled c) = bit_value (enabled_at t.clocks c)

-- the situation of agent a by the tables
abbrev pub situation_in : ℕ → Tables → Situation
situation_in a t =
    record {
      value = value_at t;
      allowed = is_allowed t.base a;
      subscribed = is_subscribed t.power a;
      pending = t.pending;
      outbox = outbox_at t a;
    }

-- this is a clock of the board that is free and has a pending set in the tables
abbrev pub CanSettleIn : Board → Tables → ℕ → Type 0
CanSettleIn board t clock = (clock < length board.clocks) × (is_free board clock ≡ true)
    × (has_set_of (resource.Clock clock) t.pending ≡ true)

-- a thing is one of the board
abbrev pub IsThing : Board → Thing → Type 0
IsThing board (State d) = d < length board.domains
IsThing board (Rate c) = c < length board.clocks
IsThing board (Enabled c) = c < length board.clocks

-- a pending set is of an agent and a domain or clock of the board
pub record IsOfBoard (board : Board) (p : PendingSet) : Type 0 where
  pub first : 1 ≤ p.agent
  pub last : p.agent ≤ length board.agents
  pub thing : IsThing board (completion p).thing
