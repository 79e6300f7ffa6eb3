-- The board that a platform controller serves, and what a device holds.
use Rattle.std.specs.Prelude.{ℕ, ◌≡◌, ◌<◌, ◌≤◌, ◌-◌, ◌==◌, ◌&&◌, ◌*◌, ◌%◌, ◌^◌, nat_lt, Bool, true, false, List, [], ◌∷◌, length, get_or, set, replicate, bit_or}
use Rattle.std.specs.Int.{bit_at}
use Rattle.std.specs.List.{list_any}
use Rattle.scmi_codec.specs.Name.{IsLooseName, IsName}
use Rattle.scmi_codec.specs.declared.payload.TheConstants.{PAYLOAD_WORDS}
use Rattle.scmi_plan.specs.declared.agent_channel.AgentChannel.{AgentChannel}
use Rattle.scmi_plan.specs.declared.agent_channel.TheConstants.{LEAST_CHANNEL_WORDS}
use Rattle.scmi_plan.specs.declared.domain.Domain.{Domain}
use Rattle.scmi_plan.specs.declared.clock.Clock.{Clock}
use Rattle.scmi_plan.specs.declared.denied.Denied.{Denied}
use Rattle.scmi_plan.specs.declared.device.Device.{Device}
use Rattle.scmi_plan.specs.declared.limits.TheConstants.{AGENTS, DOMAINS, CLOCKS, DEVICES, PENDING_SETS}
use Rattle.scmi_plan.specs.Rates as rates
use Rattle.scmi_plan.specs.declared.resource.Resource.{Resource}
use Rattle.scmi_plan.specs.declared.resource.Resource.TheVariants as resource
use Rattle.scmi_plan.specs.declared.scope.Scope.{Scope}
use Rattle.scmi_plan.specs.declared.scope.Scope.TheVariants as scope

-- the whole table of a board; agents are numbered from 1, all else from 0
pub record Board : Type 0 where
  pub vendor : List ℕ
  pub sub_vendor : List ℕ
  pub version : ℕ
  pub trusted : ℕ
  pub agents : List (List ℕ)
  pub domains : List Domain
  pub clocks : List Clock
  pub devices : List Device
  -- of each agent that a board may have, from agent 1 on
  pub channels : List AgentChannel
  -- what no agent may switch off
  pub kept : Device
  -- what is denied to each agent from the start
  pub denied : Denied
  -- what has a number and is not there
  pub absent : Device
  -- which clocks take each rate as it is asked for: bit c is for clock c
  pub free : ℕ
  -- the ids of the protocols besides the base protocol, rising
  pub protocols : List ℕ
  -- whether names may be empty and have spaces, and a clock may start at a rate that is none of its
  -- own
  pub loose : Bool

-- what a name may be, with and without this freedom (own)
abbrev pub IsNameIf : (loose : Bool) → List ℕ → Type 0
IsNameIf true name = IsLooseName name
IsNameIf false name = IsName name

-- what a name of the board may be
abbrev pub IsNameOf : Board → List ℕ → Type 0
IsNameOf board name = IsNameIf board.loose name

-- the channels of an agent of whom nothing else is said: 64 words of payload, both ways, and all
-- pending sets may be the agent's (own)
abbrev pub whole_channel : AgentChannel
whole_channel = record { words = PAYLOAD_WORDS; one_way = false; share = PENDING_SETS }

-- a channel has room for 8 to 64 words of payload, and its agent 1 to 8 of the pending sets (own)
abbrev pub IsChannel : AgentChannel → Type 0
IsChannel channel =
    (LEAST_CHANNEL_WORDS ≤ channel.words) × (channel.words ≤ PAYLOAD_WORDS)
    × (1 ≤ channel.share) × (channel.share ≤ PENDING_SETS)

-- an agent's channels
abbrev pub channel_of : Board → ℕ → AgentChannel
channel_of board a = get_or board.channels (a - 1) whole_channel

-- the same board with other channels of one agent
abbrev pub with_channel : Board → ℕ → AgentChannel → Board
with_channel board a channel = record board { channels = set board.channels (a - 1) channel }

-- whether a device holds a resource
abbrev pub holds : Device → Resource → Bool
holds device (resource.Domain d) = bit_at device.domains d == 1
holds device (resource.Clock c) = bit_at device.clocks c == 1

-- a domain by its number
abbrev pub domain_at : Board → ℕ → Domain
domain_at board d = get_or board.domains d
    (record { name = []; on = false; synchronous = false; asynchronous = false; notify = false })

-- a clock by its number
abbrev pub clock_at : Board → ℕ → Clock
clock_at board c =
    get_or board.clocks c (record { name = []; enabled = false; rate = 0; rates = rates.list [] })

-- a device of a list, by its number
abbrev pub device_in : List Device → ℕ → Device
device_in devices d = get_or devices d (record { domains = 0; clocks = 0 })

-- a device by its number
abbrev pub device_at : Board → ℕ → Device
device_at board d = device_in board.devices d

-- a domain or clock of the board
abbrev pub IsOnBoard : Board → Resource → Type 0
IsOnBoard board (resource.Domain d) = d < length board.domains
IsOnBoard board (resource.Clock c) = c < length board.clocks

-- a domain or clock that some board has
abbrev pub IsPossible : Resource → Type 0
IsPossible (resource.Domain d) = d < DOMAINS
IsPossible (resource.Clock c) = c < CLOCKS

-- a mask has the devices that hold a resource, and no others: bit d is for device d
abbrev pub AreHolders : List Device → Resource → ℕ → Type 0
AreHolders devices r mask = (d : ℕ) → d < DEVICES
    → (bit_at mask d == 1) ≡ (nat_lt d (length devices) && holds (device_in devices d) r)

-- a mask with one more bit
abbrev pub mask_with : ℕ → ℕ → ℕ
mask_with mask b = bit_or mask (1 * 2 ^ b % 2 ^ 32)

-- a device that holds nothing
abbrev pub nothing_held : Device
nothing_held = record { domains = 0; clocks = 0 }

-- what a device holds, and one domain or clock more
abbrev pub held_also : Device → Resource → Device
held_also held (resource.Domain d) = record held { domains = mask_with held.domains d }
held_also held (resource.Clock c) = record held { clocks = mask_with held.clocks c }

-- whether no agent may switch a domain or clock off (own)
abbrev pub is_kept : Board → Resource → Bool
is_kept board r = holds board.kept r

-- the same board, and no agent may switch this domain or clock off
abbrev pub with_kept : Board → Resource → Board
with_kept board r = record board { kept = held_also board.kept r }

-- whether a domain or clock of the board has a number and is not there (own)
abbrev pub is_absent : Board → Resource → Bool
is_absent board r = holds board.absent r

-- the same board, and this domain or clock is not there
abbrev pub with_absent : Board → Resource → Board
with_absent board r = record board { absent = held_also board.absent r }

-- whether a clock takes each rate as it is asked for, and rounds none (own)
abbrev pub is_free : Board → ℕ → Bool
is_free board c = bit_at board.free c == 1

-- the same board, and this clock takes each rate as it is asked for
abbrev pub with_free : Board → ℕ → Board
with_free board c = record board { free = mask_with board.free c }

-- the protocols of a board of which nothing else is said: power domains and clocks
abbrev pub own_protocols : List ℕ
own_protocols = 0x11 ∷ 0x14 ∷ []

-- whether a board has a protocol besides the base protocol (own)
abbrev pub serves : Board → ℕ → Bool
serves board id = list_any (λ one. one == id) board.protocols

-- the same board with other protocols
abbrev pub with_protocols : Board → List ℕ → Board
with_protocols board ids = record board { protocols = ids }

-- no device is denied to any agent
abbrev pub nothing_denied : Denied
nothing_denied =
    record { devices = replicate AGENTS 0; power = replicate AGENTS 0; clocks = replicate AGENTS 0 }

-- masks of agents from 1 on, with more devices in the mask of agent a
abbrev pub masks_with : List ℕ → (a devices : ℕ) → List ℕ
masks_with masks a devices = set masks (a - 1) (bit_or (get_or masks (a - 1) 0) devices)

-- what is denied, and to agent a more devices, as a whole or for a protocol
abbrev pub denied_also : Denied → (a devices : ℕ) → Scope → Denied
denied_also denied a devices scope.Device =
    record denied { devices = masks_with denied.devices a devices }
denied_also denied a devices scope.Power =
    record denied { power = masks_with denied.power a devices }
denied_also denied a devices scope.Clock =
    record denied { clocks = masks_with denied.clocks a devices }

-- the same board, with devices denied to agent a from the start, as a whole or for a protocol:
-- bit d is for device d
abbrev pub with_denied : Board → (a devices : ℕ) → Scope → Board
with_denied board a devices s = record board { denied = denied_also board.denied a devices s }
