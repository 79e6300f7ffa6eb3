-- The rules that a board has to keep, each as a test, and the first one that a board breaks.
use Rattle.std.specs.Prelude.{ℕ, ◌-◌, ◌^◌, ◌%◌, ◌==◌, nat_le, nat_lt, Bool, true, not, ◌&&◌, ◌||◌, if◌then◌else◌, List, ◌∷◌, length, Option, Some, None}
use Rattle.std.specs.List.{list_all, list_any}
use Rattle.scmi_codec.specs.declared.name.TheConstants.{NAME_BYTES}
use Rattle.scmi_plan.specs.Board.{Board}
use Rattle.scmi_plan.specs.declared.limits.TheConstants.{AGENTS, DOMAINS, CLOCKS, DEVICES, RATES}
use Rattle.scmi_plan.specs.Rates.{SupportedRates}
use Rattle.scmi_plan.specs.Rates as rates
use Rattle.scmi_plan.specs.declared.plan_error.PlanError.{PlanError}
use Rattle.scmi_plan.specs.declared.plan_error.PlanError.TheVariants as error

-- 1 to 8 agents, and at most 32 domains, clocks and devices (own)
abbrev pub has_valid_counts : Board → Bool
has_valid_counts board =
    nat_le 1 (length board.agents) && nat_le (length board.agents) AGENTS
    && nat_le (length board.domains) DOMAINS && nat_le (length board.clocks) CLOCKS
    && nat_le (length board.devices) DEVICES

-- 1 to 15 bytes, each 0x21 to 0x7E (own)
abbrev pub is_name : List ℕ → Bool
is_name bytes = nat_le 1 (length bytes) && nat_le (length bytes) NAME_BYTES
    && list_all (λ byte. nat_le 0x21 byte && nat_le byte 0x7E) bytes

-- at most 15 bytes, each 0x20 to 0x7E (own)
abbrev pub is_loose_name : List ℕ → Bool
is_loose_name bytes = nat_le (length bytes) NAME_BYTES
    && list_all (λ byte. nat_le 0x20 byte && nat_le byte 0x7E) bytes

-- a name that the board may have (own)
abbrev pub is_name_of : Board → List ℕ → Bool
is_name_of board bytes = if board.loose then is_loose_name bytes else is_name bytes

-- each name of the board is one that it may have (own)
abbrev pub has_valid_names : Board → Bool
has_valid_names board =
    is_name_of board board.vendor && is_name_of board board.sub_vendor
    && list_all (λ agent. is_name_of board agent) board.agents
    && list_all (λ domain. is_name_of board domain.name) board.domains
    && list_all (λ clock. is_name_of board clock.name) board.clocks

-- each rate is below the next
abbrev pub rises : List ℕ → Bool
rises (first ∷ second ∷ rest) = nat_lt first second && rises (second ∷ rest)
rises _ = true

-- 1 to 64 rates that rise (own)
abbrev pub is_valid_list : List ℕ → Bool
is_valid_list list = nat_le 1 (length list) && nat_le (length list) RATES && rises list

-- a valid list, or steps that end at the highest rate (own)
abbrev pub is_valid : SupportedRates → Bool
is_valid (rates.list list) = is_valid_list list
is_valid (rates.steps low high step) = nat_le 1 step && nat_le low high && (high - low) % step == 0

-- a rate is one of the list, or a number of steps above the lowest
abbrev pub supports : SupportedRates → ℕ → Bool
supports (rates.list list) rate = list_any (λ r. r == rate) list
supports (rates.steps low high step) rate =
    nat_le low rate && nat_le rate high && (rate - low) % step == 0

-- each clock has valid rates, and starts at one of them, unless the board is loose (own)
abbrev pub has_valid_clocks : Board → Bool
has_valid_clocks board = list_all
    (λ clock. is_valid clock.rates && (board.loose || supports clock.rates clock.rate)) board.clocks

-- each device holds only domains and clocks of the board (own)
abbrev pub has_valid_devices : Board → Bool
has_valid_devices board =
    list_all (λ device. nat_lt device.domains (2 ^ length board.domains)
    && nat_lt device.clocks (2 ^ length board.clocks)) board.devices

-- the trusted agent is one of the board's (own)
abbrev pub has_trusted_agent : Board → Bool
has_trusted_agent board = nat_le 1 board.trusted && nat_le board.trusted (length board.agents)

-- the first rule that a board breaks (own)
abbrev pub first_fault : Board → Option PlanError
first_fault board =
    if not (has_valid_counts board) then Some error.Count
    else if not (has_valid_names board) then Some error.Name
    else if not (has_valid_clocks board) then Some error.Rates
    else if not (has_valid_devices board) then Some error.Device
    else if not (has_trusted_agent board) then Some error.Trusted
    else None

-- the number of an error (own)
abbrev pub number : PlanError → ℕ
number error.Count = 1
number error.Name = 2
number error.Rates = 3
number error.Device = 4
number error.Trusted = 5
number error.Memory = 6
