-- What the definitions give of a board that keeps nothing, denies nothing, shares nothing out, has
-- all that it lists, frees no clock, says nothing of its protocols and is not loose: what they give
-- if no board says such things.
use Rattle.std.specs.Prelude.{◌≡◌, ◌<◌, ◌==◌, ◌&&◌, ℕ, nat_le, nat_lt, true, false, if◌then◌else◌, List, [], ◌∷◌, length, Some, None}
use Rattle.std.specs.List.{All, list_all}
use Rattle.scmi_codec.specs.Command.{command_of}
use Rattle.scmi_codec.specs.declared.message.Message.{Message}
use Rattle.scmi_codec.specs.Name.{IsName}
use Rattle.scmi_codec.specs.Reply.{bit_0, reply_unless}
use Rattle.scmi_codec.specs.declared.base_command.BaseCommand.TheVariants.{Protocols, ResetAgent}
use Rattle.scmi_codec.specs.declared.power_command.PowerCommand.TheVariants as power
use Rattle.scmi_codec.specs.declared.clock_command.ClockCommand.TheVariants as clock
use Rattle.scmi_plan.specs.Board.{Board, clock_at, nothing_denied, nothing_held, own_protocols}
use Rattle.scmi_plan.specs.Plan.{IsValid}
use Rattle.scmi_plan.specs.PlanError.{has_valid_clocks, has_valid_names, is_name, is_valid, supports}
use Rattle.scmi_plan.specs.Rates.{IsSupported}
use Rattle.scmi_plan.specs.declared.limits.TheConstants.{PENDING_SETS}
use Rattle.scmi_plan.specs.declared.scope.Scope.{Scope}
use Rattle.scmi_base.specs.BaseReply.{base_reply, protocols_reply}
use Rattle.scmi_base.specs.Permission.{permission}
use Rattle.scmi_power.specs.PowerReply.{PowerView, no_domain, power_reply, set_reply}
use Rattle.scmi_clock.specs.ClockReply.{ClockView, clock_reply, config_checks, no_clock, rate_for, rounded_rate}
use Rattle.scmi_core.specs.ReadCommand.{command_on}
use Rattle.scmi_core.specs.Pending.{has_room_beside, load_beside}
use Rattle.scmi_core.specs.Permissions.{has_permission}
use Rattle.scmi_core.specs.declared.outboxes.TheConstants.{OUTBOX_ROOM}
use Rattle.scmi_core.specs.declared.pending_set.PendingSet.{PendingSet}

-- each agent is allowed on each device and every protocol on it at the start
abbrev pub AllowsAll : Board → (a d : ℕ) → Scope → Type 0
AllowsAll board a d s = board.denied ≡ nothing_denied → has_permission board a d s [] ≡ true

-- a reset of an agent's permissions allows it everything
abbrev pub ResetsToAll : Board → (a d : ℕ) → Scope → (agent flags : ℕ) → Type 0
ResetsToAll board a d s agent flags =
    board.denied ≡ nothing_denied
    → permission board a d s (ResetAgent agent flags)
    ≡ (if agent == a && bit_0 flags then Some true else None)

-- a set of a state is denied for its caller's permission alone
abbrev pub SetsByPermission : Board → PowerView → (flags d state : ℕ) → Type 0
SetsByPermission board v flags d state =
    board.kept ≡ nothing_held
    → power_reply board v (power.Set flags d state)
    ≡ set_reply board v.channel (v.may d) (v.busy d) v.room flags d state

-- and so is a clock's configuration
abbrev pub ConfiguresByPermission : Board → ClockView → (c attributes : ℕ) → Type 0
ConfiguresByPermission board v c attributes =
    board.kept ≡ nothing_held
    → clock_reply board v (clock.Config c attributes)
    ≡ reply_unless (config_checks board (v.may c) c attributes) (0 ∷ [])

-- a domain that is not found is one that the board lacks
abbrev pub FindsDomains : Board → (d : ℕ) → Type 0
FindsDomains board d = board.absent ≡ nothing_held
    → no_domain board d ≡ nat_le (length board.domains) d

-- and so is a clock
abbrev pub FindsClocks : Board → (c : ℕ) → Type 0
FindsClocks board c = board.absent ≡ nothing_held
    → no_clock board c ≡ nat_le (length board.clocks) c

-- each rate is rounded to a supported one
abbrev pub Rounds : Board → (c flags asked : ℕ) → Type 0
Rounds board c flags asked =
    board.free ≡ 0
    → rate_for board c flags asked ≡ rounded_rate (clock_at board c).rates flags asked

-- a message asks what it says, of each protocol
abbrev pub ReadsAll : Board → Message → Type 0
ReadsAll board m = board.protocols ≡ own_protocols → command_on board m ≡ command_of m

-- power domains and clocks are the protocols that are listed
abbrev pub ListsOwn : Board → (caller skip : ℕ) → Type 0
ListsOwn board caller skip =
    board.protocols ≡ own_protocols
    → base_reply board caller (Protocols skip) ≡ protocols_reply own_protocols skip

-- each of these is a name
pub record AreNamed (board : Board) : Type 0 where
  pub vendor : IsName board.vendor
  pub sub_vendor : IsName board.sub_vendor
  pub agents : All IsName board.agents
  pub domains : All (λ domain. IsName domain.name) board.domains
  pub clocks : All (λ clock. IsName clock.name) board.clocks

-- each name of a valid board is one
abbrev pub Names : Board → Type 0
Names board = board.loose ≡ false → IsValid board → AreNamed board

-- each clock of a valid board starts at a rate of its own
abbrev pub Starts : Board → (c : ℕ) → Type 0
Starts board c =
    board.loose ≡ false → IsValid board → c < length board.clocks
    → IsSupported (clock_at board c).rates (clock_at board c).rate

-- the rules of names and of rates ask as much of each name, and of each clock
abbrev pub Refuses : Board → Type 0
Refuses board =
    board.loose ≡ false
    → (has_valid_names board
    ≡ (is_name board.vendor && is_name board.sub_vendor && list_all is_name board.agents
    && list_all (λ domain. is_name domain.name) board.domains
    && list_all (λ clock. is_name clock.name) board.clocks))
    × (has_valid_clocks board
    ≡ list_all (λ clock. is_valid clock.rates && supports clock.rates clock.rate) board.clocks)

-- an agent that all pending sets may be of has room for what is left of them and of its outbox
abbrev pub SharesAll : (waiting a : ℕ) → List PendingSet → Type 0
SharesAll waiting a sets =
    has_room_beside PENDING_SETS waiting a sets
    ≡ (nat_lt (length sets) PENDING_SETS && nat_lt (load_beside waiting a sets) OUTBOX_ROOM)
