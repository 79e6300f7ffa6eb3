-- A valid board, and what a plan holds of one.
use Rattle.std.specs.Prelude.{ℕ, ◌<◌, ◌≤◌, ◌^◌, ◌≡◌, false, List, length, get_or}
use Rattle.std.specs.List.{All}
use Rattle.scmi_plan.specs.Board.{Board, IsChannel, IsNameOf, AreHolders, domain_at, clock_at, device_at, serves}
use Rattle.scmi_plan.specs.Protocols.{AreProtocols}
use Rattle.scmi_plan.specs.Rates.{HasValidRates, IsSupported}
use Rattle.scmi_plan.specs.declared.limits.TheConstants.{AGENTS, DOMAINS, CLOCKS, DEVICES}
use Rattle.scmi_plan.specs.declared.device.Device.{Device}
use Rattle.scmi_plan.specs.declared.plan.Plan.TheInside.{Inside}
use Rattle.scmi_plan.specs.declared.resource.Resource.{Resource}
use Rattle.scmi_plan.specs.declared.resource.Resource.TheVariants as resource

-- the board that a plan's fields hold
abbrev pub board_of : Inside → Board
board_of p =
    record {
      vendor = p.vendor;
      sub_vendor = p.sub_vendor;
      version = p.version;
      trusted = p.trusted;
      agents = p.agents.items;
      domains = p.domains.items;
      clocks = p.clocks.items;
      devices = p.devices.items;
      channels = p.channels;
      kept = p.kept;
      denied = p.denied;
      absent = p.absent;
      free = p.free;
      protocols = p.protocols.items;
      loose = p.loose;
    }

-- a board that keeps the limits and rules of the profile (own)
pub record IsValid (board : Board) : Type 0 where
  pub an_agent : 1 ≤ length board.agents
  pub few_agents : length board.agents ≤ AGENTS
  pub few_domains : length board.domains ≤ DOMAINS
  pub few_clocks : length board.clocks ≤ CLOCKS
  pub few_devices : length board.devices ≤ DEVICES
  pub vendor : IsNameOf board board.vendor
  pub sub_vendor : IsNameOf board board.sub_vendor
  pub agent_names : All (λ agent. IsNameOf board agent) board.agents
  pub domain_names : (d : ℕ) → d < length board.domains → IsNameOf board (domain_at board d).name
  pub clock_names : (c : ℕ) → c < length board.clocks → IsNameOf board (clock_at board c).name
  pub valid_rates : (c : ℕ) → c < length board.clocks → HasValidRates (clock_at board c).rates
  pub supported : (c : ℕ) → c < length board.clocks → board.loose ≡ false
      → IsSupported (clock_at board c).rates (clock_at board c).rate
  pub known_domains : (d : ℕ) → d < length board.devices
      → (device_at board d).domains < 2 ^ length board.domains
  pub known_clocks : (d : ℕ) → d < length board.devices
      → (device_at board d).clocks < 2 ^ length board.clocks
  pub trusted : 1 ≤ board.trusted
  pub trusted_agent : board.trusted ≤ length board.agents
  pub channels : length board.channels ≡ AGENTS
  pub valid_channels : All IsChannel board.channels
  pub protocols : AreProtocols board.protocols

-- one mask for each of the first `count` domains or clocks: the devices that hold it
pub record AreMasks (devices : List Device) (named : ℕ → Resource) (count : ℕ)
    (masks : List ℕ) : Type 0 where
  pub rows : length masks ≡ count
  pub holders : (r : ℕ) → r < count → AreHolders devices (named r) (get_or masks r 0)

-- what a plan keeps: its board is valid, its masks are those of the board's devices, and its own
-- protocols stand apart
pub record IsPlan (p : Inside) : Type 0 where
  pub valid : IsValid (board_of p)
  pub domain_masks : AreMasks p.devices.items resource.Domain DOMAINS p.domain_holders
  pub clock_masks : AreMasks p.devices.items resource.Clock CLOCKS p.clock_holders
  pub power : p.own.power ≡ serves (board_of p) 0x11
  pub clocks : p.own.clocks ≡ serves (board_of p) 0x14
