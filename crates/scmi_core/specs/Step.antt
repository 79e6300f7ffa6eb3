-- What an event leaves of the tables.
use Rattle.std.specs.Prelude.{◌≡◌, ℕ, ◌&&◌, nat_lt, Bool, if◌then◌else◌, List, [], ◌∷◌, ◌++◌, length, drop, slice_get, Option, Some, None, unwrap_or, Result, ◌<◌, ◌≤◌, IfSome, ◌≢◌, map}
use Rattle.std.specs.Option.{option_map_or, option_and_then, option_to_list}
use Rattle.std.specs.List.{All}
use Rattle.scmi_codec.specs.Header.{HeaderFields}
use Rattle.scmi_codec.specs.declared.status.Status.{Status}
use Rattle.scmi_codec.specs.declared.message.Message.{Message}
use Rattle.scmi_codec.specs.declared.frame.Frame.{Frame}
use Rattle.scmi_codec.specs.declared.frame.Frame.TheVariants.{Good, Malformed}
use Rattle.scmi_codec.specs.declared.command.Command as codec
use Rattle.scmi_plan.specs.Board.{Board}
use Rattle.scmi_plan.specs.declared.limits.TheConstants.{AGENTS, DEVICES, DOMAINS}
use Rattle.scmi_base.specs.Permission.{is_allowed}
use Rattle.scmi_plan.specs.declared.scope.Scope.{Scope}
use Rattle.scmi_power.specs.PowerTable.{is_subscribed}
use Rattle.scmi_core.specs.declared.pending_set.PendingSet.{PendingSet}
use Rattle.scmi_codec.specs.declared.fault.Fault.{Fault}
use Rattle.scmi_core.specs.declared.tables.Tables.{Tables}
use Rattle.scmi_core.specs.Value.{Change, Thing, change_of, value_in}
use Rattle.scmi_core.specs.Outboxes.{Gets, HasSameOutbox}
use Rattle.scmi_core.specs.Tables.{IsOfBoard, IsThing, load_at, outbox_at, situation_in, value_at}
use Rattle.scmi_core.specs.Deed.{Success, success_of}
use Rattle.scmi_core.specs.Pending.{acceptance, promoted, settled, unwanted}
use Rattle.scmi_core.specs.Commands.{permission_in}
use Rattle.scmi_core.specs.Outbox.{failed_response_for, made_in, state_changed}
use Rattle.scmi_core.specs.ReadCommand.{command_on}
use Rattle.scmi_core.specs.Reply.{words_given}
use Rattle.scmi_core.specs.Subscriptions.{subscription, subscription_after_reset}
use Rattle.scmi_core.specs.declared.outboxes.TheConstants.{OUTBOX_ROOM}

-- the pending sets that stay after an event that may complete the first
abbrev pub rest_of : Tables → Option PendingSet → List PendingSet
rest_of t None = t.pending
rest_of t (Some p) = drop 1 t.pending

-- what an event leaves that was a success, or completed a set
pub record HasStepped (board : Board) (t : Tables) (success : Option Success)
    (done : Option PendingSet) (new : Tables) : Type 0 where
  pub permissions : (a d : ℕ) (scope : Scope) → 1 ≤ a → d < DEVICES → is_allowed new.base a d scope
      ≡ unwrap_or (option_and_then (λ s. permission_in board a d scope s.command) success)
      (is_allowed t.base a d scope)
  pub subscriptions : (a d : ℕ) → 1 ≤ a → a ≤ AGENTS → d < DOMAINS → is_subscribed new.power a d
      ≡ unwrap_or (option_and_then (subscription a d) success) (is_subscribed t.power a d)
  pub values : (x : Thing) → IsThing board x → value_at new x
      ≡ unwrap_or (option_and_then (value_in x) (change_of board success done)) (value_at t x)
  pub known : IfSome (change_of board success done) (λ change. IsThing board change.thing)
  pub pending : new.pending
      ≡ rest_of t done ++ option_to_list (option_and_then (acceptance board) success)
  pub known_sets : All (IsOfBoard board) t.pending → All (IsOfBoard board) new.pending
  pub outboxes : (a : ℕ) → 1 ≤ a → a ≤ length board.agents → Gets t.outboxes new.outboxes a
      (made_in a (situation_in a t) new.pending done (change_of board success done))

-- what a command of agent a that got this reply leaves
abbrev pub HasExecuted : Board → ℕ → HeaderFields → Result codec.Command Status → List ℕ → Tables
    → Tables → Type 0
HasExecuted board a header command reply t new =
    HasStepped board t (success_of a header command reply) None new

-- what a frame of agent a leaves; a malformed frame changes nothing
abbrev pub HasAnswered : Board → ℕ → Frame → Tables → Tables → Type 0
HasAnswered board a (Good m) t new = HasExecuted board a m.header (command_on board m)
    (words_given board a (situation_in a t) m) t new
HasAnswered board a (Malformed len header) t new = new ≡ t

-- nothing but outboxes changed
pub record SameButOutboxes (t new : Tables) : Type 0 where
  pub base : new.base ≡ t.base
  pub power : new.power ≡ t.power
  pub clocks : new.clocks ≡ t.clocks
  pub pending : new.pending ≡ t.pending

-- nothing but pending sets changed
pub record SameButPending (t new : Tables) : Type 0 where
  pub base : new.base ≡ t.base
  pub power : new.power ≡ t.power
  pub clocks : new.clocks ≡ t.clocks
  pub outboxes : new.outboxes ≡ t.outboxes

-- a set was added after those that are pending, if there is one, and nothing else changed there
abbrev pub Accepts : Tables → Tables → Option PendingSet → Type 0
Accepts t new set = new.pending ≡ t.pending ++ option_to_list set

-- the first pending set was taken off as failed with a fault: nothing else changed but the delayed
-- response to it
pub record HasFailed (fault : Fault) (t new : Tables) : Type 0 where
  pub base : new.base ≡ t.base
  pub power : new.power ≡ t.power
  pub clocks : new.clocks ≡ t.clocks
  pub pending : new.pending ≡ drop 1 t.pending
  pub outboxes : (a : ℕ) → 1 ≤ a → Gets t.outboxes new.outboxes a
      (option_map_or (failed_response_for a fault) (slice_get t.pending 0) [])

-- an agent restarted: its requests for notifications have ended, its outbox is empty, it wants no
-- delayed response to its pending sets, and nothing else changed
pub record HasRestarted (a : ℕ) (t new : Tables) : Type 0 where
  pub base : new.base ≡ t.base
  pub states : new.power.states ≡ t.power.states
  pub subscriptions : (b d : ℕ) → 1 ≤ b → b ≤ AGENTS → d < DOMAINS → is_subscribed new.power b d
      ≡ unwrap_or (subscription_after_reset b (Some a)) (is_subscribed t.power b d)
  pub clocks : new.clocks ≡ t.clocks
  pub pending : new.pending ≡ map (unwanted a) t.pending
  pub emptied : outbox_at new a ≡ []
  pub others : (b : ℕ) → 1 ≤ b → b ≢ a → HasSameOutbox t.outboxes new.outboxes b

-- the pending set at a place went before the others, and nothing else changed
pub record HasPromoted (place : ℕ) (t new : Tables) : Type 0 where
  pub pending : new.pending ≡ promoted place t.pending
  pub rest : SameButPending t new

-- the pending set of a clock got another rate, and nothing else changed
pub record HasSettled (clock rate : ℕ) (t new : Tables) : Type 0 where
  pub pending : new.pending ≡ map (settled clock rate) t.pending
  pub rest : SameButPending t new

-- the hardware made a change: its thing has the new value, subscribers are notified of it, and
-- nothing else changed
pub record HasChanged (board : Board) (change : Change) (t new : Tables) : Type 0 where
  pub base : new.base ≡ t.base
  pub subscribers : new.power.subscribers ≡ t.power.subscribers
  pub values : (x : Thing) → IsThing board x
      → value_at new x ≡ unwrap_or (value_in x change) (value_at t x)
  pub known : IsThing board change.thing
  pub pending : new.pending ≡ t.pending
  pub outboxes : (a : ℕ) → 1 ≤ a → a ≤ length board.agents
      → Gets t.outboxes new.outboxes a (made_in a (situation_in a t) t.pending None (Some change))

-- the notification of a domain's new state to agent a, if it asked for that and has room
abbrev pub told_at : Tables → ℕ → ℕ → ℕ → ℕ → List Message
told_at t a causer d state = if nat_lt (load_at t a) OUTBOX_ROOM && is_subscribed t.power a d
    then state_changed causer d state ∷ [] else []

-- the notification of a set to agent a, if the state is another than before
abbrev pub announced_at : Tables → ℕ → ℕ → Option (ℕ × ℕ) → Bool → List Message
announced_at t a causer changed differs =
    option_map_or (λ set. if differs then told_at t a causer set.0 set.1 else []) changed []
