-- An agent's situation with the platform.
use Rattle.std.specs.Prelude.{ℕ, Bool, List, length, ◌==◌}
use Rattle.scmi_codec.specs.declared.message.Message.{Message}
use Rattle.scmi_plan.specs.Board.{Board, channel_of}
use Rattle.scmi_plan.specs.declared.resource.Resource.TheVariants as resource
use Rattle.scmi_base.specs.Permission.{may}
use Rattle.scmi_plan.specs.declared.scope.Scope.{Scope}
use Rattle.scmi_power.specs.PowerReply.{PowerView}
use Rattle.scmi_clock.specs.ClockReply.{ClockView}
use Rattle.scmi_core.specs.declared.pending_set.PendingSet.{PendingSet}
use Rattle.scmi_core.specs.Commands.{Views}
use Rattle.scmi_core.specs.Value.{Enabled, Rate, State, Thing}
use Rattle.scmi_core.specs.Pending.{has_room_beside, has_set_of}

-- all that replies to an agent and messages made for it depend on, besides the board
pub record Situation : Type 0 where
  -- the value of each domain and clock
  pub value : Thing → ℕ
  -- whether the agent is allowed on a device, as a whole or for a protocol
  pub allowed : ℕ → Scope → Bool
  -- whether the agent is notified of a domain's changes
  pub subscribed : ℕ → Bool
  -- the sets that are pending, of all agents
  pub pending : List PendingSet
  -- the agent's outbox
  pub outbox : List Message

-- an asynchronous set of agent a has room beside the pending sets and what waits in its outbox
abbrev pub has_room : Board → ℕ → Situation → Bool
has_room board a s = has_room_beside (channel_of board a).share (length s.outbox) a s.pending

-- what the replies of the power domain protocol to agent a read
abbrev pub power_view : Board → ℕ → Situation → PowerView
power_view board a s =
    record {
      state = λ d. s.value (State d);
      may = λ d. may board s.allowed (resource.Domain d);
      busy = λ d. has_set_of (resource.Domain d) s.pending;
      room = has_room board a s;
      channel = channel_of board a;
    }

-- what the replies of the clock protocol to agent a read
abbrev pub clock_view : Board → ℕ → Situation → ClockView
clock_view board a s =
    record {
      rate = λ c. s.value (Rate c);
      enabled = λ c. s.value (Enabled c) == 1;
      may = λ c. may board s.allowed (resource.Clock c);
      busy = λ c. has_set_of (resource.Clock c) s.pending;
      room = has_room board a s;
      channel = channel_of board a;
    }

-- what the replies to agent a read
abbrev pub views : Board → ℕ → Situation → Views
views board a s = record { power = power_view board a s; clock = clock_view board a s }
