-- What an area is, by the codec's reading of it.
use Rattle.std.specs.Prelude.{ℕ, ◌/◌, ◌%◌, ◌==◌, ◌&&◌, Bool, true, false, if◌then◌else◌, List, Option, Some, None}
use Rattle.scmi_codec.specs.Area.{frame_waiting, frame_of, status_at}
use Rattle.scmi_codec.specs.ChannelArea.{channel_frame, channel_waiting}
use Rattle.scmi_codec.specs.Command.{command_of}
use Rattle.scmi_codec.specs.declared.message.Message.{Message}
use Rattle.scmi_codec.specs.declared.status.Status.{Status}
use Rattle.scmi_codec.specs.declared.status.Status.TheVariants.{Success}
use Rattle.scmi_codec.specs.declared.frame.Frame.{Frame}
use Rattle.scmi_codec.specs.declared.frame.Frame.TheVariants as frame
use Rattle.scmi_codec.specs.declared.frame.Answer.{Answer}
use Rattle.scmi_codec.specs.declared.frame.Answer.TheVariants as answer
use Rattle.scmi_decode.specs.Replies.{response_status}
use Rattle.scmi_decode.specs.declared.description.Description.{Description}
use Rattle.scmi_decode.specs.declared.description.Description.TheVariants as is

-- what a message of another type than 0 is
abbrev pub described_p2a : Bool → Message → Description
described_p2a free m = if m.header.kind == 2 then is.Delayed free m else if m.header.kind == 3
    then is.Notification free m else is.Foreign free m

-- what a frame is in a busy channel
abbrev pub described_posted : Frame → Description
described_posted (frame.Malformed len header) = is.Malformed false len header
described_posted (frame.Good m) = if m.header.kind == 0 then is.Command m (command_of m)
    else described_p2a false m

-- what a message is by the status that it has as a reply, if it has the form of one
abbrev pub described_by_status : Message → Option Status → Description
described_by_status m None = is.Withdrawn m (command_of m)
described_by_status m (Some Success) = is.Reply m
described_by_status m (Some s) = is.Refusal m s

-- what a message of type 0 is in a free channel
abbrev pub described_response : Message → Description
described_response m = described_by_status m (response_status m)

-- what a frame is in a free channel without the error bit
abbrev pub described_free : Frame → Description
described_free (frame.Malformed len header) = if (len == 0) && (header == 0) then is.Unused
    else is.Malformed true len header
described_free (frame.Good m) = if m.header.kind == 0 then described_response m
    else described_p2a true m

-- what a frame is in a free channel, with or without the error bit
abbrev pub described_left : Bool → Frame → Description
described_left error f = if error then is.ChannelError f else described_free f

-- what an area is by what was left there, and by what a callee finds, if it finds something
abbrev pub described_found : List ℕ → (left : Frame) → Option Frame → Description
described_found area left (Some f) = described_posted f
described_found area left None = described_left (status_at area / 2 % 2 == 1) left

-- what an area is
abbrev pub described_area : List ℕ → Description
described_area area = described_found area (frame_of area) (frame_waiting area)

-- what the area of a channel is, whose room its size says
abbrev pub described_channel : List ℕ → Description
described_channel area = described_found area (channel_frame area) (channel_waiting area)

-- what an area is once a frame in it was answered
abbrev pub described_answer : Frame → Answer → Description
described_answer f (answer.Reply m) = described_free (frame.Good m)
described_answer f answer.Released = described_free f
described_answer f answer.ChannelError = is.ChannelError f
