-- The table of power states and of requests for notifications, and what a command leaves of it.
use Rattle.std.specs.Prelude.{◌≡◌, ℕ, ◌-◌, ◌<◌, ◌≤◌, ◌==◌, ◌&&◌, Bool, true, false, if◌then◌else◌, List, length, get_or, Option, Some, None, unwrap_or, IfSome}
use Rattle.std.specs.Int.{bit_at}
use Rattle.scmi_codec.specs.Payload.{if_success}
use Rattle.scmi_codec.specs.declared.power_command.PowerCommand.{PowerCommand}
use Rattle.scmi_codec.specs.declared.power_command.PowerCommand.TheVariants as power
use Rattle.scmi_plan.specs.Board.{Board, channel_of, domain_at}
use Rattle.scmi_plan.specs.declared.domain.Domain.{Domain}
use Rattle.scmi_power.specs.PowerReply.{PowerView, power_reply, state_on, state_off, set_reply, may_set, notify_reply}
use Rattle.scmi_codec.specs.Reply.{bit_0}
use Rattle.scmi_plan.specs.declared.limits.TheConstants.{AGENTS, DOMAINS}
use Rattle.scmi_plan.specs.declared.load.Load.{Load}
use Rattle.scmi_plan.specs.declared.resource.Resource.TheVariants as resource
use Rattle.scmi_base.specs.Permission.{Permissions, may, is_allowed}

-- the state of each domain, and who is notified of its changes, bit a - 1 for agent a
pub record PowerTables : Type 0 where
  pub states : List ℕ
  pub subscribers : List ℕ

-- the table has a place for each domain that a board may have (own)
pub record IsTable (table : PowerTables) : Type 0 where
  pub states : length table.states ≡ DOMAINS
  pub subscribers : length table.subscribers ≡ DOMAINS

-- the state of a domain
abbrev pub state_at : PowerTables → ℕ → ℕ
state_at table d = get_or table.states d 0

-- whether an agent is notified of a domain's changes
abbrev pub is_subscribed : PowerTables → ℕ → ℕ → Bool
is_subscribed table a d = bit_at (get_or table.subscribers d 0) (a - 1) == 1

-- the state that a domain's row starts it in
abbrev pub starting_state : Domain → ℕ
starting_state row = if row.on then state_on else state_off

-- the state of a board's domain at the start
abbrev pub state_at_start : Board → ℕ → ℕ
state_at_start board d = starting_state (domain_at board d)

-- whether a caller may change a domain, by a table of permissions
abbrev pub may_change : Board → Permissions → (caller d : ℕ) → Bool
may_change board permissions caller d =
    may board (λ device. is_allowed permissions caller device) (resource.Domain d)

-- whether a domain has a pending set
abbrev pub is_busy : Load → ℕ → Bool
is_busy load d = bit_at load.busy d == 1

-- what a caller's replies read in the tables
abbrev pub view_of : Board → Permissions → PowerTables → Load → ℕ → PowerView
view_of board permissions table load caller =
    record {
      state = λ d. state_at table d;
      may = may_change board permissions caller;
      busy = is_busy load;
      room = load.room;
      channel = channel_of board caller;
    }

-- the reply to a caller's command, by the permissions, the table, and what pending sets leave free
abbrev pub reply_to : Board → Permissions → PowerTables → Load → ℕ → PowerCommand → List ℕ
reply_to board permissions table load caller command =
    power_reply board (view_of board permissions table load caller) command

-- the domain and state that a successful command sets at once
abbrev pub set_now : PowerCommand → Option (ℕ × ℕ)
set_now (power.Set flags d state) = if bit_0 flags then None else Some (d, state)
set_now _ = None

-- the domain and state that a successful command accepts for later
abbrev pub set_later : PowerCommand → Option (ℕ × ℕ)
set_later (power.Set flags d state) = if bit_0 flags then Some (d, state) else None
set_later _ = None

-- the domain that a command sets
abbrev pub set_domain : PowerCommand → Option ℕ
set_domain (power.Set flags d state) = Some d
set_domain _ = None

-- what a caller's successful command says about the subscription of agent a to domain d
abbrev pub notification : ℕ → ℕ → ℕ → PowerCommand → Option Bool
notification a d caller (power.Notify domain enable) = if caller == a && domain == d
    then Some (bit_0 enable) else None
notification a d caller _ = None

-- a domain's state after a set, if there is one
abbrev pub set_to : Option (ℕ × ℕ) → ℕ → ℕ → ℕ
set_to None d old = old
set_to (Some set) d old = if set.0 == d then set.1 else old

-- a command that sets nothing and asks for no notification
abbrev pub only_reads : PowerCommand → Bool
only_reads (power.Set flags d state) = false
only_reads (power.Notify d enable) = false
only_reads _ = true

-- the reply to a caller's set, by the permissions and by what pending sets leave free
abbrev pub set_words : Board → Permissions → ℕ → Load → (flags d state : ℕ) → List ℕ
set_words board permissions caller load flags d state =
    set_reply board (channel_of board caller) (may_set board
    (may_change board permissions caller d) d state) (is_busy load d) load.room flags d state

-- the reply to a caller's request for notifications, by the permissions
abbrev pub notify_words : Board → Permissions → ℕ → (d enable : ℕ) → List ℕ
notify_words board permissions caller d enable =
    notify_reply board (channel_of board caller) (may_change board permissions caller d) d enable

-- the states of a table after a set, if there is one
abbrev pub HasSet : Option (ℕ × ℕ) → PowerTables → PowerTables → Type 0
HasSet set table after = (d : ℕ) → d < DOMAINS → state_at after d ≡ set_to set d (state_at table d)

-- who is notified of changes after this reply to a caller's command
abbrev pub HasNotified : List ℕ → ℕ → PowerCommand → PowerTables → PowerTables → Type 0
HasNotified words caller command table after =
    (a d : ℕ) → 1 ≤ a → a ≤ AGENTS → d < DOMAINS
    → is_subscribed after a d
    ≡ unwrap_or (if_success words (notification a d caller command)) (is_subscribed table a d)

-- the domain of a set, if there is one, is the board's
abbrev pub IsKnown : Board → Option (ℕ × ℕ) → Type 0
IsKnown board set = IfSome set (λ set. set.0 < length board.domains)

-- a set for later, if there is one, has room
abbrev pub HasRoom : Load → Option (ℕ × ℕ) → Type 0
HasRoom load set = IfSome set (λ set. load.room ≡ true)
