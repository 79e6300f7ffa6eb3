-- What a platform left in a channel, by the codec's reading.
use Rattle.std.specs.Prelude.{ℕ, ◌/◌, ◌%◌, ◌==◌, if◌then◌else◌, List, Result, Ok, Err}
use Rattle.scmi_codec.specs.Area.{frame_of, status_at}
use Rattle.scmi_codec.specs.declared.message.Message.{Message}
use Rattle.scmi_codec.specs.declared.frame.Frame.{Frame}
use Rattle.scmi_codec.specs.declared.frame.Frame.TheVariants as frame
use Rattle.scmi_agent.specs.declared.error.ReadError.{ReadError}
use Rattle.scmi_agent.specs.declared.error.ReadError.TheVariants.{Nothing, ChannelError, Malformed}

-- the message of a frame
abbrev pub message_in : Frame → Result Message ReadError
message_in (frame.Good m) = Ok m
message_in (frame.Malformed n header) = Err Malformed

-- the message that a platform left as its answer, or why there is none
abbrev pub answer_in : List ℕ → Result Message ReadError
answer_in area =
    if status_at area % 2 == 1
    then (if status_at area / 2 % 2 == 1 then Err ChannelError else message_in (frame_of area))
    else Err Nothing
