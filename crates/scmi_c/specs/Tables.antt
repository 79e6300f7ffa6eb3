-- The board that a program's tables encode, and the faults of tables as numbers for C.
use Rattle.std.specs.Prelude.{◌≡◌, ◌<◌, ◌≤◌, ◌⊎◌, ℕ, ◌+◌, ◌^◌, ◌==◌, ◌&&◌, ◌||◌, nat_le, nat_lt, suc, Bool, not, if◌then◌else◌, List, [], ◌∷◌, ◌++◌, length, map, replicate, take, drop, Result, Err}
use Rattle.std.specs.List.{before_first, list_all, list_any, position_or_len}
use Rattle.scmi_codec.specs.ChannelArea.{channel_words, is_channel_size}
use Rattle.scmi_codec.specs.declared.payload.TheConstants.{PAYLOAD_WORDS}
use Rattle.scmi_plan.specs.Board.{Board, nothing_denied, nothing_held, own_protocols, whole_channel}
use Rattle.scmi_plan.specs.PlanError.{first_fault, rises}
use Rattle.scmi_plan.specs.Protocols.{are_above_base}
use Rattle.scmi_plan.specs.declared.agent_channel.AgentChannel.{AgentChannel}
use Rattle.scmi_plan.specs.declared.clock.Clock.{Clock}
use Rattle.scmi_plan.specs.declared.device.Device.{Device}
use Rattle.scmi_plan.specs.declared.domain.Domain.{Domain}
use Rattle.scmi_plan.specs.declared.limits.TheConstants.{AGENTS, PENDING_SETS}
use Rattle.scmi_plan.specs.declared.resource.Resource.TheVariants as resource
use Rattle.scmi_plan.specs.declared.scope.Scope.TheVariants as scope
use Rattle.scmi_plan.specs.Rates.{SupportedRates}
use Rattle.scmi_plan.specs.Rates as rates
use Rattle.scmi_board.specs.declared.board_line.BoardLine.{BoardLine}
use Rattle.scmi_board.specs.declared.board_line.BoardLine.TheVariants as said
use Rattle.scmi_board.specs.ProtocolRow.{ids_in}
use Rattle.scmi_board.specs.BoardLines.{with_lines}
use Rattle.scmi_c.specs.Board.{unless_fault}
use Rattle.scmi_c.specs.declared.code.TheConstants.{MEMORY, RULE, TABLE}
use Rattle.scmi_c.specs.declared.rows.AgentRow.{AgentRow}
use Rattle.scmi_c.specs.declared.rows.ClockRow.{ClockRow}
use Rattle.scmi_c.specs.declared.rows.DeviceRow.{DeviceRow}
use Rattle.scmi_c.specs.declared.rows.DomainRow.{DomainRow}
use Rattle.scmi_c.specs.declared.rows.HeadingRow.{HeadingRow}
use Rattle.scmi_c.specs.declared.tables.Tables.{Tables}

-- the tables of a board, as a program in C writes them
pub record BoardTables : Type 0 where
  pub heading : HeadingRow
  pub agents : List AgentRow
  pub domains : List DomainRow
  pub clocks : List ClockRow
  pub rates : List ℕ
  pub devices : List DeviceRow

-- the tables of these rows
abbrev pub tables_given : HeadingRow → List AgentRow → List DomainRow → List ClockRow → List ℕ
    → List DeviceRow → BoardTables
tables_given heading agents domains clocks rates devices =
    record {
      heading = heading;
      agents = agents;
      domains = domains;
      clocks = clocks;
      rates = rates;
      devices = devices;
    }

-- the tables that a program gave
abbrev pub tables_of : Tables → BoardTables
tables_of t =
    tables_given t.heading.now t.agents.now t.domains.now t.clocks.now t.rates.now t.devices.now

-- whether a byte is zero
abbrev pub is_zero : ℕ → Bool
is_zero byte = byte == 0

-- whether a name is ended by a zero, has bytes of ASCII alone, and zeros behind the first
abbrev pub is_named : List ℕ → Bool
is_named name = list_any is_zero name && list_all (λ byte. nat_lt byte 128) name
    && list_all is_zero (drop (position_or_len is_zero name) name)

-- the name: what comes before its zero
abbrev pub name_in : List ℕ → List ℕ
name_in name = before_first is_zero name

-- whether these are ids that rise above that of the base protocol, and zeros behind them
abbrev pub is_protocols : List ℕ → Bool
is_protocols ids =
    rises (ids_in ids) && are_above_base (ids_in ids)
    && list_all is_zero (drop (position_or_len is_zero ids) ids)

-- whether the heading is well formed
abbrev pub is_heading : HeadingRow → Bool
is_heading row = is_named row.vendor && is_named row.sub_vendor && is_protocols row.protocols

-- whether an agent's areas are whole, or have a size that a channel may have
abbrev pub is_channel_row : AgentRow → Bool
is_channel_row row = (row.bytes == 0) || is_channel_size row.bytes

-- whether a clock's list of rates, if it has one, is within a table of this length
abbrev pub ends_within : ℕ → ClockRow → Bool
ends_within rates row = (row.count == 0) || nat_le (row.first + row.count) rates

-- whether no more of the pending sets may be an agent's than there are
abbrev pub is_share_row : AgentRow → Bool
is_share_row row = nat_le row.pending PENDING_SETS

-- whether a mask has devices alone of which there are this many: bit d is for device d
abbrev pub is_mask_of : ℕ → ℕ → Bool
is_mask_of devices mask = nat_lt mask (2 ^ devices)

-- whether an agent is denied devices alone of which there are this many
abbrev pub is_denied_row : ℕ → AgentRow → Bool
is_denied_row devices row =
    is_mask_of devices row.denied && is_mask_of devices row.denied_power
    && is_mask_of devices row.denied_clocks

-- whether what a row says of an agent is so of an agent beside this many devices
abbrev pub is_said_row : ℕ → AgentRow → Bool
is_said_row devices row = is_channel_row row && is_share_row row && is_denied_row devices row

-- whether the row of an agent is well formed, beside a table of this many devices
abbrev pub is_agent_row : ℕ → AgentRow → Bool
is_agent_row devices row = is_named row.name && is_said_row devices row

-- whether the row of a domain is well formed
abbrev pub is_domain_row : DomainRow → Bool
is_domain_row row = is_named row.name

-- whether the row of a clock is well formed, beside a table of this many rates
abbrev pub is_clock_row : ℕ → ClockRow → Bool
is_clock_row rates row = is_named row.name && ends_within rates row

-- whether tables are well formed in themselves
abbrev pub is_well_formed : BoardTables → Bool
is_well_formed t =
    is_heading t.heading && list_all (is_agent_row (length t.devices)) t.agents
    && list_all is_domain_row t.domains && list_all (is_clock_row (length t.rates)) t.clocks

-- any number but 0
abbrev pub is_set : ℕ → Bool
is_set flag = not (flag == 0)

-- the domain of a row
abbrev pub domain_in : DomainRow → Domain
domain_in row =
    record {
      name = name_in row.name;
      on = is_set row.on;
      synchronous = is_set row.synchronous;
      asynchronous = is_set row.asynchronous;
      notify = is_set row.notify;
    }

-- rows of the table of rates, or every step from the lowest to the highest
abbrev pub rates_in : List ℕ → ClockRow → SupportedRates
rates_in table row = if row.count == 0 then rates.steps row.low row.high row.step
    else rates.list (take row.count (drop row.first table))

-- the clock of a row
abbrev pub clock_in : List ℕ → ClockRow → Clock
clock_in table row = record {
  name = name_in row.name;
  enabled = is_set row.enabled;
  rate = row.rate;
  rates = rates_in table row;
}

-- the device of a row
abbrev pub device_in : DeviceRow → Device
device_in row = record { domains = row.domains; clocks = row.clocks }

-- the board of well-formed tables, loose if their heading says so, with whole channels, of which
-- nothing is kept or denied, all is there, no clock is free, and the protocols are those of power
-- domains and clocks
abbrev pub board_in : BoardTables → Board
board_in t =
    record {
      vendor = name_in t.heading.vendor;
      sub_vendor = name_in t.heading.sub_vendor;
      version = t.heading.version;
      trusted = t.heading.trusted;
      agents = map (λ row. name_in row.name) t.agents;
      domains = map domain_in t.domains;
      clocks = map (clock_in t.rates) t.clocks;
      devices = map device_in t.devices;
      channels = replicate AGENTS whole_channel;
      kept = nothing_held;
      denied = nothing_denied;
      absent = nothing_held;
      free = 0;
      protocols = own_protocols;
      loose = is_set t.heading.loose;
    }

-- how many of the pending sets may be an agent's, all of them if its row says none
abbrev pub share_in : ℕ → ℕ
share_in pending = if pending == 0 then PENDING_SETS else pending

-- an agent's channels, which are whole if their bytes are 0
abbrev pub channel_in : AgentRow → AgentChannel
channel_in row =
    record {
      words = if row.bytes == 0 then PAYLOAD_WORDS else channel_words row.bytes;
      one_way = is_set row.one_way;
      share = share_in row.pending;
    }

-- what the heading says beside the board: its protocols, if there are any
abbrev pub heading_lines : HeadingRow → List BoardLine
heading_lines row =
    if length (ids_in row.protocols) == 0 then []
    else said.Protocols row.protocols ∷ []

-- what the row of an agent says beside its name: its channels, and the devices that are denied to
-- it as a whole, for the power protocol and for the clock protocol
abbrev pub agent_lines : ℕ → AgentRow → List BoardLine
agent_lines agent row =
    said.Channel (record { agent = agent; channel = channel_in row })
    ∷ said.Deny (record { agent = agent; devices = row.denied; scope = scope.Device })
    ∷ said.Deny (record { agent = agent; devices = row.denied_power; scope = scope.Power })
    ∷ said.Deny (record { agent = agent; devices = row.denied_clocks; scope = scope.Clock }) ∷ []

-- a line, if a row says so
abbrev pub said_if : ℕ → BoardLine → List BoardLine
said_if flag line = if is_set flag then line ∷ [] else []

-- what the row of a domain says beside it: that no agent may switch it off, and that it is not
-- there
abbrev pub domain_lines : ℕ → DomainRow → List BoardLine
domain_lines domain row = said_if row.kept (said.Keep (resource.Domain domain))
    ++ said_if row.absent (said.Absent (resource.Domain domain))

-- what the row of a clock says beside it: the same, and that it takes each rate as it is asked for
abbrev pub clock_lines : ℕ → ClockRow → List BoardLine
clock_lines clock row =
    said_if row.kept (said.Keep (resource.Clock clock))
    ++ said_if row.absent (said.Absent (resource.Clock clock))
    ++ said_if row.free (said.Free clock)

-- the lines of each of these rows, of which the first has this number
abbrev pub lines_from : {Row : Type 0} → (ℕ → Row → List BoardLine) → ℕ → List Row → List BoardLine
lines_from lines number [] = []
lines_from lines number (row ∷ rows) = lines number row ++ lines_from lines (suc number) rows

-- what tables say beside their board: of each agent from 1, then of each domain and clock from 0,
-- then of its protocols
abbrev pub lines_in : BoardTables → List BoardLine
lines_in t =
    lines_from agent_lines 1 t.agents ++ lines_from domain_lines 0 t.domains
    ++ lines_from clock_lines 0 t.clocks ++ heading_lines t.heading

-- the rows of two boards are of the same number
pub record HasRowsOf (old new : Board) : Type 0 where
  pub agents : length new.agents ≡ length old.agents
  pub domains : length new.domains ≡ length old.domains
  pub clocks : length new.clocks ≡ length old.clocks
  pub devices : length new.devices ≡ length old.devices

-- the board of tables with what they say beside it, or the number of its fault
abbrev pub board_of_tables : BoardTables → Result Board ℕ
board_of_tables t = if is_well_formed t then unless_fault (first_fault (board_in t))
    (with_lines (board_in t) (lines_in t)) else Err TABLE

-- out of memory, tables that are not well formed, or a rule of boards (1 to 5)
abbrev pub IsTableFault : ℕ → Type 0
IsTableFault n = (n ≡ MEMORY) ⊎ (n ≡ TABLE) ⊎ ((RULE < n) × (n ≤ RULE + 5))
