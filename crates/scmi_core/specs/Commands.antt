-- What a command does, whichever protocol it is of: the one file of definitions with an arm for
-- each protocol.
use Rattle.std.specs.Prelude.{ℕ, Bool, true, false, List, Option, None, option_map}
use Rattle.scmi_codec.specs.declared.command.Command.TheVariants.{Base, Power, Clock}
use Rattle.scmi_codec.specs.declared.command.Command as codec
use Rattle.scmi_codec.specs.declared.base_command.BaseCommand.TheVariants as base
use Rattle.scmi_plan.specs.Board.{Board}
use Rattle.scmi_plan.specs.declared.effect.Effect.{Effect}
use Rattle.scmi_plan.specs.declared.effect.Effect.TheVariants as effect
use Rattle.scmi_plan.specs.declared.scope.Scope.{Scope}
use Rattle.scmi_base.specs.BaseReply.{base_reply}
use Rattle.scmi_base.specs.Permission.{permission, reset_by}
use Rattle.scmi_power.specs.PowerProtocol.{state_effect}
use Rattle.scmi_power.specs.PowerReply.{PowerView, power_reply}
use Rattle.scmi_power.specs.PowerTable.{notification, set_later, set_now}
use Rattle.scmi_power.specs.PowerTable as power_table
use Rattle.scmi_clock.specs.ClockProtocol.{clock_effect}
use Rattle.scmi_clock.specs.ClockReply.{ClockView, clock_reply}
use Rattle.scmi_clock.specs.ClockTable.{enabled_now, rate_later, rate_now}
use Rattle.scmi_clock.specs.ClockTable as clock_table
use Rattle.scmi_core.specs.declared.pending_set.Setting.{Setting}
use Rattle.scmi_core.specs.declared.pending_set.Setting.TheVariants as setting

-- what the replies to an agent read, besides the board
pub record Views : Type 0 where
  pub power : PowerView
  pub clock : ClockView

-- the payload of the reply to a command of agent a
abbrev pub reply_by : Board → ℕ → Views → codec.Command → List ℕ
reply_by board a v (Base c) = base_reply board a c
reply_by board a v (Power c) = power_reply board v.power c
reply_by board a v (Clock c) = clock_reply board v.clock c

-- the change that a successful command makes at once
abbrev pub now_of : Board → codec.Command → Option Effect
now_of board (Base c) = None
now_of board (Power c) = option_map state_effect (set_now c)
now_of board (Clock c) = clock_effect (rate_now board c) (enabled_now c)

-- what a pending set changes when it completes
abbrev pub setting_effect : Setting → Effect
setting_effect (setting.State d state) = effect.State d state
setting_effect (setting.Rate c rate) = effect.Rate c rate

-- a set that is accepted for later, and whether a delayed response is wanted
pub record Later : Type 0 where
  pub setting : Setting
  pub wanted : Bool

-- a domain's set: domain and state; it always wants a delayed response (own)
abbrev pub state_later : ℕ × ℕ → Later
state_later set = record { setting = setting.State set.0 set.1; wanted = true }

-- a clock's set: clock, rounded rate, and whether a delayed response is wanted (DEN0056B, clock
-- management protocol)
abbrev pub rate_later_as : ℕ × ℕ × Bool → Later
rate_later_as set = record { setting = setting.Rate set.0 set.1; wanted = set.2 }

-- the set that a successful command accepts for later
abbrev pub later_of : Board → codec.Command → Option Later
later_of board (Base c) = None
later_of board (Power c) = option_map state_later (set_later c)
later_of board (Clock c) = option_map rate_later_as (rate_later board c)

-- the change that it accepts for later
abbrev pub later_effect_of : Board → codec.Command → Option Effect
later_effect_of board c = option_map (λ l. setting_effect l.setting) (later_of board c)

-- what it says about the notifications of agent a about domain d
abbrev pub request_of : (a d caller : ℕ) → codec.Command → Option Bool
request_of a d caller (Base c) = None
request_of a d caller (Power c) = notification a d caller c
request_of a d caller (Clock c) = None

-- the agent that it resets
abbrev pub reset_of : codec.Command → Option ℕ
reset_of (Base c) = reset_by c
reset_of _ = None

-- what it says about agent a on device d, as a whole or for a protocol
abbrev pub permission_in : Board → ℕ → ℕ → Scope → codec.Command → Option Bool
permission_in board a d scope (Base c) = permission board a d scope c
permission_in board a d scope _ = None

-- whether a command changes no domain or clock, and asks for no notifications
abbrev pub changes_nothing : codec.Command → Bool
changes_nothing (Base c) = true
changes_nothing (Power c) = power_table.only_reads c
changes_nothing (Clock c) = clock_table.only_reads c

-- whether it sets no permission and resets no agent
abbrev pub grants_nothing : codec.Command → Bool
grants_nothing (Base (base.Permit agent device flags)) = false
grants_nothing (Base (base.PermitProtocol agent device protocol flags)) = false
grants_nothing (Base (base.ResetAgent agent flags)) = false
grants_nothing _ = true
