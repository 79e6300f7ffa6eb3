-- Commands that are set aside, and the frames that are held back meanwhile (own).
use Rattle.std.specs.Prelude.{◌≡◌, ℕ, ◌==◌, ◌&&◌, ◌||◌, Bool, not, true, false, ◌≤◌, if◌then◌else◌, List, length, slice_index, Option, Some, None, IsSomeAnd, ⊤}
use Rattle.std.specs.List.{list_any}
use Rattle.std.specs.Option.{option_map_or}
use Rattle.scmi_codec.specs.Header.{HeaderFields}
use Rattle.scmi_codec.specs.declared.message.Message.{Message}
use Rattle.scmi_codec.specs.declared.frame.Frame.{Frame}
use Rattle.scmi_codec.specs.declared.frame.Frame.TheVariants.{Good, Malformed}
use Rattle.scmi_plan.specs.declared.resource.Resource.{Resource}
use Rattle.scmi_plan.specs.declared.resource.Resource.TheVariants.{Clock, Domain}
use Rattle.scmi_plan.specs.declared.limits.TheConstants.{AGENTS}
use Rattle.scmi_plan.specs.Agent.{IsAgent}
use Rattle.scmi_c.specs.declared.aside.Aside.{Aside}
use Rattle.scmi_c.specs.declared.aside.Slot.{Slot}
use Rattle.scmi_c.specs.declared.aside.TheConstants.{SET_WORDS}
use Rattle.scmi_c.specs.declared.effect.EffectNumbers.{EffectNumbers}
use Rattle.scmi_c.specs.Kept.{Asked, IsAskable, IsUnasked, Kept, aside_of}
use Rattle.scmi_c.specs.Standing.{Held, board_of}

-- whether a message is a base command that changes permissions: BASE_SET_DEVICE_PERMISSIONS,
-- BASE_SET_PROTOCOL_PERMISSIONS or BASE_RESET_AGENT_CONFIGURATION
abbrev pub is_permission : HeaderFields → Bool
is_permission header =
    header.protocol == 0x10 && (header.id == 0x9 || header.id == 0xa || header.id == 0xb)

-- the domain or clock that a message sets, by its header and words, if it is a set, asynchronous or
-- not: POWER_STATE_SET, CLOCK_RATE_SET or CLOCK_CONFIG_SET; a word that it lacks counts as 0
abbrev pub set_of : Message → Option Resource
set_of m = set_by m.header.protocol m.header.id m.payload.items where
  set_by : ℕ → ℕ → List ℕ → Option Resource
  set_by protocol id words =
      if protocol == 0x11 && id == 0x4 then Some (Domain (slice_index words 1))
      else if protocol == 0x14 && id == 0x5 then Some (Clock (slice_index words 1))
      else if protocol == 0x14 && id == 0x7 then Some (Clock (slice_index words 0))
      else None

-- whether a change is one of this domain or clock
abbrev pub is_change_of : EffectNumbers → Resource → Bool
is_change_of change (Domain d) = change.kind == 1 && change.id == d
is_change_of change (Clock c) = not (change.kind == 1) && change.id == c

-- whether a message might change what becomes of a command with this change: it changes
-- permissions, or sets the same domain or clock
abbrev pub disturbs : Message → EffectNumbers → Bool
disturbs m change = is_permission m.header || option_map_or (is_change_of change) (set_of m) false

-- a frame does not change what becomes of a command
abbrev pub Spares : Frame → Asked → Type 0
Spares (Good m) command = disturbs m command.change ≡ false
Spares (Malformed len header) command = ⊤

-- each command that may be committed and may fail, and that a frame spares, still may
abbrev pub KeepsSpared : Frame → Held → Held → Type 0
KeepsSpared frame p k = (command : Asked) → Spares frame command → IsAskable p command
    → IsAskable k command

-- whether a message of an agent is held back while a command is set aside: it is of the same agent,
-- or might change what becomes of the command
abbrev pub holds_back : Asked → ℕ → Message → Bool
holds_back aside agent m = aside.agent == agent || disturbs m aside.change

-- a frame of an agent is held back: it is a message that some command holds back which is set aside
abbrev pub IsHeldBackBy : (ℕ → Option Asked) → ℕ → Frame → Type 0
IsHeldBackBy aside agent (Good m) = (other : ℕ)
    × IsSomeAnd (aside other) (λ command. holds_back command agent m ≡ true)
IsHeldBackBy aside agent (Malformed len header) = ⊥

-- the same of an agent of the board
abbrev pub IsHeldBackAt : Held → (ℕ → Option Asked) → ℕ → Frame → Type 0
IsHeldBackAt held aside agent frame = IsAgent (length (board_of held).agents) agent
    × IsHeldBackBy aside agent frame

-- a frame of an agent of the board is held back by what is set aside
abbrev pub IsHeldBack : Kept → ℕ → Frame → Type 0
IsHeldBack p agent frame = IsHeldBackAt p.held (aside_of p) agent frame

-- a message of few words, as a set is
abbrev pub IsSmall : Frame → Type 0
IsSmall (Good m) = length m.payload.items ≤ SET_WORDS
IsSmall (Malformed len header) = ⊥

-- whether a place holds a command that holds a message of an agent back
abbrev pub holds_in : ℕ → Slot → ℕ → Message → Bool
holds_in own slot agent m = slot.is_used && (own == agent || disturbs m slot.change)

-- whether a place holds a command
abbrev pub is_used : Slot → Bool
is_used slot = slot.is_used

-- whether some place does
abbrev pub is_any : List Slot → Bool
is_any slots = list_any is_used slots

-- there is a place for each agent, and whether one is used is marked
pub record IsMarked (table : Aside) : Type 0 where
  pub places : length table.slots ≡ AGENTS
  pub any : table.is_any ≡ is_any table.slots

-- what is set aside, with one more command, that of its agent
abbrev pub with_aside : Asked → (ℕ → Option Asked) → ℕ → Option Asked
with_aside command aside agent = if agent == command.agent then Some command else aside agent

-- what is set aside, without that of an agent
abbrev pub without_aside : ℕ → (ℕ → Option Asked) → ℕ → Option Asked
without_aside gone aside agent = if agent == gone then None else aside agent

-- the command that waited is set aside, for an agent that had none set aside, and all else is as it
-- was
pub record IsSetAside (command : Asked) (p k : Kept) : Type 0 where
  pub held : k.held ≡ p.held
  pub unasked : IsUnasked k
  pub free : aside_of p command.agent ≡ None
  pub aside : (agent : ℕ) → aside_of k agent ≡ with_aside command (aside_of p) agent

-- an agent's command that was set aside waits, where none waited, and all else is as it was
pub record IsTakenUp (agent : ℕ) (command : Asked) (p k : Kept) : Type 0 where
  pub held : k.held ≡ p.held
  pub unasked : IsUnasked p
  pub asked : k.asked ≡ Some command
  pub own : command.agent ≡ agent
  pub aside : (other : ℕ) → aside_of k other ≡ without_aside agent (aside_of p) other
