-- What the ghost arguments of the calls are picked by.
use Rattle.std.specs.Prelude.{[], Option, Some, None}
use Rattle.scmi_codec.specs.Header.{header_of}
use Rattle.scmi_codec.specs.declared.message.Message.{Message}
use Rattle.scmi_codec.specs.declared.frame.Frame.{Frame}
use Rattle.scmi_codec.specs.declared.frame.Frame.TheVariants.{Good, Malformed}
use Rattle.scmi_codec.specs.declared.frame.Answer.{Answer}
use Rattle.scmi_codec.specs.declared.frame.Answer.TheVariants.{Reply, Released}

-- some message
abbrev pub no_message : Message
no_message = record { header = header_of 0; payload = record { items = [] } }

-- the message of a response
abbrev pub reply_of : Option Answer → Message
reply_of (Some (Reply m)) = m
reply_of _ = no_message

-- the answer, if there is one
abbrev pub answer_or : Option Answer → Answer
answer_or (Some x) = x
answer_or None = Released

-- the frame, if there is one
abbrev pub frame_or : Option Frame → Frame
frame_or (Some f) = f
frame_or None = Malformed 0 0

-- the message of a good frame
abbrev pub message_in : Frame → Message
message_in (Good m) = m
message_in (Malformed l h) = no_message
