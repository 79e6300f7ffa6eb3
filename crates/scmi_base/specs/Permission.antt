-- Who may change what.
use Rattle.std.specs.Prelude.{◌≡◌, ◌<◌, ◌≤◌, false, unwrap_or, ℕ, ◌==◌, ◌&&◌, ◌||◌, ◌%◌, Bool, true, not, if◌then◌else◌, List, length, Option, Some, None}
use Rattle.std.specs.List.{list_any, range_with_len}
use Rattle.scmi_codec.specs.Payload.{begins_with_success}
use Rattle.scmi_codec.specs.declared.base_command.BaseCommand.{BaseCommand}
use Rattle.scmi_codec.specs.declared.base_command.BaseCommand.TheVariants as base
use Rattle.scmi_plan.specs.Board.{Board, holds, device_at}
use Rattle.scmi_codec.specs.Reply.{bit_0}
use Rattle.scmi_plan.specs.declared.denied.Denied.{Denied}
use Rattle.scmi_plan.specs.declared.limits.TheConstants.{DEVICES}
use Rattle.scmi_plan.specs.declared.resource.Resource.{Resource}
use Rattle.scmi_plan.specs.declared.resource.Resource.TheVariants as resource
use Rattle.scmi_base.specs.PermissionTable.{entry}
use Rattle.scmi_plan.specs.declared.scope.Scope.{Scope}
use Rattle.scmi_plan.specs.declared.scope.Scope.TheVariants as scope

-- some device of the board passes a test
abbrev pub some_device : Board → (ℕ → Bool) → Bool
some_device board test = list_any test (range_with_len 0 (length board.devices))

-- the protocol of a resource
abbrev pub protocol_of : Resource → Scope
protocol_of (resource.Domain d) = scope.Power
protocol_of (resource.Clock c) = scope.Clock

-- an agent is allowed a protocol on a device where neither the device as a whole nor that protocol
-- on it is denied (own)
abbrev pub allows : (Scope → Bool) → Scope → Bool
allows says protocol = says scope.Device && says protocol

-- A resource of no device is open to all. Another may be changed by an agent that is allowed its
-- protocol on a device which holds it (own).
abbrev pub may : Board → (ℕ → Scope → Bool) → Resource → Bool
may board says r =
    not (some_device board (λ device. holds (device_at board device) r))
    || some_device board
    (λ device. holds (device_at board device) r && allows (says device) (protocol_of r))

-- the same scope
abbrev pub is_scope : Scope → Scope → Bool
is_scope scope.Device scope.Device = true
is_scope scope.Power scope.Power = true
is_scope scope.Clock scope.Clock = true
is_scope _ _ = false

-- the protocol whose id is in the low eight bits of a word: 0x11 is that of power domains, 0x14
-- that of clocks (own)
abbrev pub protocol_named : ℕ → Scope
protocol_named word = if word % 0x100 == 0x11 then scope.Power else scope.Clock

-- A table for devices as a whole, and one for each protocol. Each has a mask for each agent, bit d
-- for device d, which is 1 if the device is denied to the agent.
abbrev pub Permissions : Type 0
Permissions = Denied

-- the table of a scope
abbrev pub table_of : Permissions → Scope → List ℕ
table_of tables scope.Device = tables.devices
table_of tables scope.Power = tables.power
table_of tables scope.Clock = tables.clocks

-- what the tables say of an agent, a device and a scope
abbrev pub is_allowed : Permissions → ℕ → ℕ → Scope → Bool
is_allowed tables agent device s = entry (table_of tables s) agent device

-- what a successful command says about an agent on a device: a permission, or a reset to what the
-- board begins with (own)
abbrev pub permission : Board → ℕ → ℕ → Scope → BaseCommand → Option Bool
permission board a d s (base.Permit agent device flags) =
    if agent == a && device == d && is_scope scope.Device s then Some (bit_0 flags) else None
permission board a d s (base.PermitProtocol agent device protocol flags) =
    if agent == a && device == d && is_scope (protocol_named protocol) s
    then Some (bit_0 flags) else None
permission board a d s (base.ResetAgent agent flags) = if agent == a && bit_0 flags
    then Some (is_allowed board.denied a d s) else None
permission board a d s _ = None

-- the agent whose notification requests a successful command ends (own)
abbrev pub reset_by : BaseCommand → Option ℕ
reset_by (base.ResetAgent agent flags) = Some agent
reset_by _ = None

-- what the tables say after a command that got this reply
abbrev pub is_allowed_after : Board → List ℕ → ℕ → ℕ → Scope → BaseCommand → Permissions → Bool
is_allowed_after board reply a d s command tables =
    if begins_with_success reply then unwrap_or (permission board a d s command)
    (is_allowed tables a d s) else is_allowed tables a d s

-- the tables after a command that got this reply
abbrev pub HasPermitted : Board → List ℕ → BaseCommand → Permissions → Permissions → Type 0
HasPermitted board reply command tables after =
    (a d : ℕ) (s : Scope) → 1 ≤ a → d < DEVICES
    → is_allowed after a d s ≡ is_allowed_after board reply a d s command tables

-- the agent whose notification requests end with a command that got this reply
abbrev pub reset_after : List ℕ → BaseCommand → Option ℕ
reset_after reply command = if begins_with_success reply then reset_by command else None
