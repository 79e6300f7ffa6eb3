-- Areas of the size of an agent's channel.
use Rattle.std.specs.Prelude.{◌≡◌, ◌≢◌, ◌⊎◌, ℕ, List, length, None}
use Rattle.scmi_codec.specs.ChannelArea.{channel_bytes, channel_waiting}
use Rattle.scmi_codec.specs.declared.area.TheConstants.{AREA_BYTES}
use Rattle.scmi_plan.specs.Agent.{IsAgent}
use Rattle.scmi_plan.specs.Board.{channel_of}
use Rattle.scmi_plan.specs.declared.agent_channel.AgentChannel.{AgentChannel}
use Rattle.scmi_core.specs.Value.{bit_value}
use Rattle.scmi_c.specs.declared.channel.ChannelNumbers.{ChannelNumbers}
use Rattle.scmi_c.specs.Standing.{Held, board_of}

-- the size in bytes of the areas of an agent's channels
abbrev pub bytes_of : ℕ → Held → ℕ
bytes_of agent p = channel_bytes (channel_of (board_of p) agent).words

-- an agent of the board, and this many bytes are the size of its areas
abbrev pub HasSize : ℕ → ℕ → Held → Type 0
HasSize agent bytes p = IsAgent (length (board_of p).agents) agent × (bytes ≡ bytes_of agent p)

-- an agent of the board, and this many bytes are not the size of its areas
abbrev pub HasAnotherSize : ℕ → ℕ → Held → Type 0
HasAnotherSize agent bytes p = IsAgent (length (board_of p).agents) agent
    × (bytes ≢ bytes_of agent p)

-- an area of its agent's channel, which is free
abbrev pub IsFreeOf : ℕ → List ℕ → Held → Type 0
IsFreeOf agent area p = HasSize agent (length area) p × (channel_waiting area ≡ None)

-- an area of this many bytes is whole, or has the size of its agent's channel: it has room for each
-- reply to the agent
abbrev pub IsAreaOf : ℕ → ℕ → Held → Type 0
IsAreaOf agent bytes p = (bytes ≡ AREA_BYTES) ⊎ HasSize agent bytes p

-- a channel, as numbers for C
abbrev pub numbers_of_channel : AgentChannel → ChannelNumbers
numbers_of_channel channel =
    record { bytes = channel_bytes channel.words; one_way = bit_value channel.one_way }
