-- A board with lines behind its rows: what channels its agents have, what is kept, what is denied,
-- what is absent, which clocks are free, what its protocols are (own).
use Rattle.std.specs.Prelude.{ℕ, ◌<◌, ◌-◌, ◌/◌, ◌^◌, ◌==◌, ◌&&◌, ◌++◌, nat_le, nat_lt, Bool, true, false, if◌then◌else◌, List, [], ◌∷◌, length, Option, Some, None, Result}
use Rattle.std.specs.List.{fold}
use Rattle.std.specs.Str.{bytes_eq}
use Rattle.scmi_codec.specs.ChannelArea.{is_channel_size}
use Rattle.scmi_codec.specs.declared.clock_command.TheConstants.{CLOCK_PROTOCOL}
use Rattle.scmi_codec.specs.declared.power_command.TheConstants.{POWER_PROTOCOL}
use Rattle.scmi_plan.specs.Agent.{IsAgent}
use Rattle.scmi_plan.specs.Board.{Board, IsChannel, IsOnBoard, with_absent, with_channel, with_denied, with_free, with_kept, with_protocols}
use Rattle.scmi_plan.specs.PlanError.{rises}
use Rattle.scmi_plan.specs.Protocols.{AreProtocols, are_above_base}
use Rattle.scmi_plan.specs.RawPlan.{asked_board}
use Rattle.scmi_plan.specs.declared.limits.TheConstants.{DEVICES, PENDING_SETS, PROTOCOLS}
use Rattle.scmi_plan.specs.declared.resource.Resource.{Resource}
use Rattle.scmi_plan.specs.declared.resource.Resource.TheVariants as resource
use Rattle.scmi_plan.specs.declared.scope.Scope.{Scope}
use Rattle.scmi_plan.specs.declared.scope.Scope.TheVariants as scope
use Rattle.scmi_board.specs.BoardText.{behind_heading, heading_left}
use Rattle.scmi_board.specs.Items.{◌>>=◌, ItemsView, first_item, first_number, items_left, no_item}
use Rattle.scmi_board.specs.Lines.{Line, LinesView, last_number}
use Rattle.scmi_board.specs.Number.{number_of}
use Rattle.scmi_board.specs.ProtocolRow.{ids_in, row_of}
use Rattle.scmi_board.specs.Rows.{after_each, parts_of, with_row}
use Rattle.scmi_board.specs.declared.board_line.BoardLine.{BoardLine}
use Rattle.scmi_board.specs.declared.board_line.BoardLine.TheVariants as said
use Rattle.scmi_board.specs.declared.board_with_lines.BoardWithLines.{BoardWithLines}
use Rattle.scmi_board.specs.declared.channel_line.ChannelLine.{ChannelLine}
use Rattle.scmi_board.specs.declared.deny_line.DenyLine.{DenyLine}
use Rattle.scmi_board.specs.declared.words.TheConstants.{ABSENT, CHANNEL, CLOCK, DENY, DOMAIN, FREE, KEEP, ONE_WAY, PENDING}
use Rattle.scmi_board.specs.declared.words.TheConstants as words

-- a board, and the lines behind its rows
abbrev pub Described : Type 0
Described = Board × List BoardLine

-- what a text has said so far
abbrev pub described : BoardWithLines → Described
described raw = (asked_board raw.board, raw.lines.items)

-- a line is of agents, devices, domains and clocks of the board, and a channel is one that an agent
-- may have
abbrev pub IsLineOf : Board → BoardLine → Type 0
IsLineOf board (said.Channel line) = IsAgent (length board.agents) line.agent
    × IsChannel line.channel
IsLineOf board (said.Keep kept) = IsOnBoard board kept
IsLineOf board (said.Deny line) = IsAgent (length board.agents) line.agent
    × (line.devices < 2 ^ length board.devices)
IsLineOf board (said.Absent absent) = IsOnBoard board absent
IsLineOf board (said.Free c) = c < length board.clocks
IsLineOf board (said.Protocols row) = AreProtocols (ids_in row)

-- a board with what a line says of it
abbrev pub with_board_line : Board → BoardLine → Board
with_board_line board (said.Channel line) = with_channel board line.agent line.channel
with_board_line board (said.Keep kept) = with_kept board kept
with_board_line board (said.Deny line) = with_denied board line.agent line.devices line.scope
with_board_line board (said.Absent absent) = with_absent board absent
with_board_line board (said.Free c) = with_free board c
with_board_line board (said.Protocols row) = with_protocols board (ids_in row)

-- a board with what these lines say of it
abbrev pub with_lines : Board → List BoardLine → Board
with_lines board lines = fold with_board_line board lines

-- how many of the pending sets may be an agent's: 1 to all of them
unfoldable pub first_share : ItemsView → Option (ℕ × ItemsView)
first_share view = do
  share ← first_number 32 view
  if nat_le 1 share.0 && nat_le share.0 PENDING_SETS then Some (share.0, share.1) else None

-- nothing, or `pending N`
unfoldable pub first_pending : ItemsView → Option (ℕ × ItemsView)
first_pending view = elim (no_item view) [
  | Some end ↦ Some (PENDING_SETS, view)
  | None ↦
      (first_item view >>= λ item. if bytes_eq item.0 PENDING.now then first_share item.1 else None)
]

-- [one-way] [pending N]: whether the platform can't send to the agent, and its share
unfoldable pub first_options : ItemsView → Option ((Bool × ℕ) × ItemsView)
first_options view = elim (no_item view) [
  | Some end ↦ Some ((false, PENDING_SETS), view)
  | None ↦ (first_item view >>= λ item.
      if bytes_eq item.0 ONE_WAY.now
      then (first_pending item.1 >>= λ share. Some ((true, share.0), share.1))
      else if bytes_eq item.0 PENDING.now
      then (first_share item.1 >>= λ share. Some ((false, share.0), share.1))
      else None)
]

-- AGENT BYTES [one-way] [pending N]
unfoldable pub first_channel : ItemsView → Option (ChannelLine × ItemsView)
first_channel view = do
  agent ← first_number 32 view
  bytes ← first_number 32 agent.1
  options ← first_options bytes.1
  if is_channel_size bytes.0
      then Some (
        record {
          agent = agent.0;
          channel = record {
            words = (bytes.0 - 0x1C) / 4;
            one_way = options.0.0;
            share = options.0.1;
          };
        },
        options.1,
      )
      else None

-- domain N or clock N, of the board
unfoldable pub first_resource : Board → ItemsView → Option (Resource × ItemsView)
first_resource board view = do
  word ← first_item view
  number ← first_number 32 word.1
  if bytes_eq word.0 DOMAIN.now && nat_lt number.0 (length board.domains)
      then Some (resource.Domain number.0, number.1)
      else if bytes_eq word.0 CLOCK.now && nat_lt number.0 (length board.clocks)
      then Some (resource.Clock number.0, number.1)
      else None

-- clock N, of the board
unfoldable pub first_free : Board → ItemsView → Option (ℕ × ItemsView)
first_free board view = do
  word ← first_item view
  number ← first_number 32 word.1
  if bytes_eq word.0 CLOCK.now && nat_lt number.0 (length board.clocks)
      then Some (number.0, number.1) else None

-- an id behind others, of which a board has at most so many
unfoldable pub with_id : List ℕ → List ℕ → Option (List ℕ)
with_id ids part = do
  id ← number_of 8 part
  if nat_lt 0 id && nat_lt (length ids) PROTOCOLS then Some (ids ++ id ∷ []) else None

-- ID,ID,.. of protocols that a board may have besides the base protocol, as a row
unfoldable pub first_protocols : ItemsView → Option (List ℕ × ItemsView)
first_protocols view = do
  item ← first_item view
  ids ← after_each with_id [] (parts_of item.0)
  let row = row_of ids in
      if nat_le (length (ids_in row)) PROTOCOLS && rises (ids_in row) && are_above_base (ids_in row)
      then Some (row, item.1)
      else None

-- nothing, or the number of a protocol: what is denied of a device
unfoldable pub first_scope : ItemsView → Option (Scope × ItemsView)
first_scope view = elim (no_item view) [
  | Some end ↦ Some (scope.Device, view)
  | None ↦ (first_number 8 view >>= λ protocol.
      if protocol.0 == POWER_PROTOCOL then Some (scope.Power, protocol.1)
      else if protocol.0 == CLOCK_PROTOCOL then Some (scope.Clock, protocol.1)
      else None)
]

-- AGENT DEVICE [PROTOCOL], of the board; no board has more devices than a mask has bits
unfoldable pub first_denied : Board → ItemsView → Option (DenyLine × ItemsView)
first_denied board view = do
  agent ← first_number 32 view
  device ← first_number 32 agent.1
  scope ← first_scope device.1
  if (nat_le 1 agent.0 && nat_le agent.0 (length board.agents))
      && (nat_lt device.0 DEVICES && nat_lt device.0 (length board.devices))
      then Some (record { agent = agent.0; devices = 2 ^ device.0; scope = scope.0 }, scope.1)
      else None

-- the agent of the last line `channel`, behind a line of which it was this one
abbrev pub channel_behind : ℕ → BoardLine → ℕ
channel_behind agent (said.Channel line) = line.agent
channel_behind agent (said.Keep kept) = agent
channel_behind agent (said.Deny line) = agent
channel_behind agent (said.Absent absent) = agent
channel_behind agent (said.Free c) = agent
channel_behind agent (said.Protocols row) = agent

-- the agent of the last line `channel` of these lines, 0 if there is none
abbrev pub last_agent : List BoardLine → ℕ
last_agent lines = fold channel_behind 0 lines

-- the channels of an agent of the board, behind those of the agents before it
unfoldable pub with_channel_line : Described → ItemsView → Option Described
with_channel_line so_far view = do
  found ← first_channel view
  end ← no_item found.1
  if nat_lt (last_agent so_far.1) found.0.agent && nat_le found.0.agent (length so_far.0.agents)
      then Some (so_far.0, so_far.1 ++ said.Channel found.0 ∷ [])
      else None

-- a domain or clock of the board that is kept
unfoldable pub with_keep_line : Described → ItemsView → Option Described
with_keep_line so_far view = do
  found ← first_resource so_far.0 view
  end ← no_item found.1
  Some (so_far.0, so_far.1 ++ said.Keep found.0 ∷ [])

-- what is denied to an agent of the board
unfoldable pub with_deny_line : Described → ItemsView → Option Described
with_deny_line so_far view = do
  found ← first_denied so_far.0 view
  end ← no_item found.1
  Some (so_far.0, so_far.1 ++ said.Deny found.0 ∷ [])

-- a domain or clock of the board that is not there
unfoldable pub with_absent_line : Described → ItemsView → Option Described
with_absent_line so_far view = do
  found ← first_resource so_far.0 view
  end ← no_item found.1
  Some (so_far.0, so_far.1 ++ said.Absent found.0 ∷ [])

-- a clock of the board that takes each rate as it is asked for
unfoldable pub with_free_line : Described → ItemsView → Option Described
with_free_line so_far view = do
  found ← first_free so_far.0 view
  end ← no_item found.1
  Some (so_far.0, so_far.1 ++ said.Free found.0 ∷ [])

-- the protocols of the board besides the base protocol
unfoldable pub with_protocols_line : Described → ItemsView → Option Described
with_protocols_line so_far view = do
  found ← first_protocols view
  end ← no_item found.1
  Some (so_far.0, so_far.1 ++ said.Protocols found.0 ∷ [])

-- a row of the board, where no other line stands before it
unfoldable pub with_board_row : Described → List ℕ → Option Described
with_board_row so_far text = elim so_far.1 [
  | [] ↦ (with_row so_far.0 text >>= λ board. Some (board, []))
  | line ∷ lines ↦ None
]

-- what a line between heading and `end` adds; none where it is no such line
unfoldable pub with_line : Described → List ℕ → Option Described
with_line so_far text = do
  word ← first_item (items_left text)
  if bytes_eq word.0 CHANNEL.now then with_channel_line so_far word.1
      else if bytes_eq word.0 KEEP.now then with_keep_line so_far word.1
      else if bytes_eq word.0 DENY.now then with_deny_line so_far word.1
      else if bytes_eq word.0 ABSENT.now then with_absent_line so_far word.1
      else if bytes_eq word.0 FREE.now then with_free_line so_far word.1
      else if bytes_eq word.0 words.PROTOCOLS.now then with_protocols_line so_far word.1
      else with_board_row so_far text

-- the board and lines that are left up to `end`, and the lines behind it
abbrev pub described_left : LinesView → Result (Described × List Line) ℕ
described_left lines =
    behind_heading (λ board. (board, [])) with_line (last_number lines) (heading_left lines)
