-- What the areas of an agent's channels show.
use Rattle.std.specs.Prelude.{ℕ, ◌+◌, ◌++◌, nat_le, Bool, true, false, if◌then◌else◌, List, [], length, Option, Some, None}
use Rattle.std.specs.Int.{to_le_bytes, w32}
use Rattle.scmi_board.specs.Items.{◌>>=◌, ItemsView}
use Rattle.scmi_board.specs.Number.{number_of}
use Rattle.scmi_board.specs.Rows.{after_each}
use Rattle.scmi_codec.specs.ChannelArea.{is_channel_size}
use Rattle.scmi_codec.specs.declared.area.TheConstants.{AREA_BYTES}
use Rattle.scmi_codec.specs.declared.frame.Answer.TheVariants.{Reply, ChannelError}
use Rattle.scmi_codec.specs.declared.frame.Frame.TheVariants.{Good, Malformed}
use Rattle.scmi_codec.specs.declared.message.Message.{Message}
use Rattle.scmi_decode.specs.Description.{described_channel}
use Rattle.scmi_decode.specs.declared.description.Description.{Description}
use Rattle.scmi_decode.specs.declared.description.Description.TheVariants as is
use Rattle.scmi_check.specs.declared.shown.Shown.{Shown}
use Rattle.scmi_check.specs.declared.shown.Shown.TheVariants.{Posted, Got, Took}

-- the bytes of a word after those of others, the lowest first, if an area has room for it
unfoldable pub with_area_word : List ℕ → List ℕ → Option (List ℕ)
with_area_word bytes item = do
  word ← number_of 32 item
  if nat_le (length bytes + 4) AREA_BYTES then Some (bytes ++ to_le_bytes w32 word) else None

-- these bytes of an area, and those of the words of all items that are left; none if the spaces
-- have a fault
unfoldable pub area_behind : List ℕ → ItemsView → Option (List ℕ)
area_behind bytes view = if view.whole then after_each with_area_word bytes view.items else None

-- the bytes of an area whose words are all items that are left
abbrev pub area_left : ItemsView → Option (List ℕ)
area_left view = area_behind [] view

-- what the area of a channel is that has these bytes; none if no channel has as many
abbrev pub described : List ℕ → Option Description
described area = if is_channel_size (length area) then Some (described_channel area) else None

-- what the area of a channel is whose words are all items that are left
unfoldable pub area_described : ItemsView → Option Description
area_described view = do
  area ← area_left view
  described area

-- a message in the area of an agent's A2P channel: its command while the channel is busy, and the
-- response once it is free
abbrev pub message_in : ℕ → Bool → Message → Shown
message_in a free message = if free then Got a (Reply message) else Posted a (Good message)

-- what the area of an agent's A2P channel shows: the command, the response, or the channel error
abbrev pub a2p_shown : ℕ → Description → Option Shown
a2p_shown a is.Unused = None
a2p_shown a (is.Command message request) = Some (message_in a false message)
a2p_shown a (is.Withdrawn message request) = Some (message_in a true message)
a2p_shown a (is.Reply message) = Some (message_in a true message)
a2p_shown a (is.Refusal message status) = Some (message_in a true message)
a2p_shown a (is.Delayed free message) = Some (message_in a free message)
a2p_shown a (is.Notification free message) = Some (message_in a free message)
a2p_shown a (is.Foreign free message) = Some (message_in a free message)
a2p_shown a (is.ChannelError frame) = Some (Got a ChannelError)
a2p_shown a (is.Malformed free len header) = if free then None
    else Some (Posted a (Malformed len header))

-- a message in the area of an agent's P2A channel, which the agent takes while the channel is busy
abbrev pub taken : ℕ → Bool → Message → Option Shown
taken a free message = if free then None else Some (Took a message)

-- what the area of an agent's P2A channel shows: the message
abbrev pub p2a_shown : ℕ → Description → Option Shown
p2a_shown a (is.Command message request) = Some (Took a message)
p2a_shown a (is.Delayed free message) = taken a free message
p2a_shown a (is.Notification free message) = taken a free message
p2a_shown a (is.Foreign free message) = taken a free message
p2a_shown a _ = None
