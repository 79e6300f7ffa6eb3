-- The area of a channel, of the size that its board gives it (own).
use Rattle.std.specs.Prelude.{⊤, Bool, ◌==◌, ◌&&◌, nat_le, ℕ, ◌+◌, ◌*◌, ◌-◌, ◌/◌, ◌%◌, if◌then◌else◌, List, length, Option, Result, Ok, Err}
use Rattle.scmi_codec.specs.Area.{frame_within, waiting_within}
use Rattle.scmi_codec.specs.declared.payload.TheConstants.{PAYLOAD_WORDS}
use Rattle.scmi_codec.specs.declared.channel_area.TheConstants.{LEAST_PAYLOAD_WORDS}
use Rattle.scmi_codec.specs.declared.channel_area.ChannelAreaError.{ChannelAreaError}
use Rattle.scmi_codec.specs.declared.channel_area.ChannelAreaError.TheVariants.{WrongSize, TooLong}
use Rattle.scmi_codec.specs.declared.frame.Frame.{Frame}
use Rattle.scmi_codec.specs.declared.frame.Answer.{Answer}
use Rattle.scmi_codec.specs.declared.frame.Answer.TheVariants.{Reply, Released, ChannelError}

-- the bytes of an area of this many payload words
abbrev pub channel_bytes : ℕ → ℕ
channel_bytes words = 0x1C + 4 * words

-- whether a channel's area may have this many bytes: 28 + 4k, k from the least to the most words of
-- a payload
abbrev pub is_channel_size : ℕ → Bool
is_channel_size n = nat_le (channel_bytes LEAST_PAYLOAD_WORDS) n
    && (nat_le n (channel_bytes PAYLOAD_WORDS) && (n % 4 == 0))

-- how many payload words an area of this many bytes has
abbrev pub channel_words : ℕ → ℕ
channel_words bytes = (bytes - 0x1C) / 4

-- how many payload words an area has
abbrev pub capacity : List ℕ → ℕ
capacity area = channel_words (length area)

-- the frame that a channel's area encodes
abbrev pub channel_frame : List ℕ → Frame
channel_frame area = frame_within (capacity area) area

-- what a callee finds in a channel's area: nothing while the channel is free
abbrev pub channel_waiting : List ℕ → Option Frame
channel_waiting area = waiting_within (capacity area) area

-- how many payload words an answer writes
abbrev pub answer_words : Answer → ℕ
answer_words (Reply m) = length m.payload.items
answer_words Released = 0
answer_words ChannelError = 0

-- whether this many payload words may be written into an area, and why not
abbrev pub room_for : ℕ → List ℕ → Result ⊤ ChannelAreaError
room_for words area =
    if is_channel_size (length area)
    then (if nat_le words (capacity area) then Ok tt else Err TooLong) else Err WrongSize
