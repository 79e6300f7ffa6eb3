-- What the lines of a log say.
use Rattle.std.specs.Prelude.{◌≡◌, List, [], ◌∷◌, Option, Some, None}
use Rattle.std.specs.List.{filter_map}
use Rattle.std.specs.Option.{option_or}
use Rattle.scmi_codec.specs.declared.frame.Frame.{Frame}
use Rattle.scmi_codec.specs.declared.frame.Answer.{Answer}
use Rattle.scmi_codec.specs.declared.frame.Answer.TheVariants.{Reply, Released, ChannelError}
use Rattle.scmi_link.specs.declared.closing.Closing.{Closing}
use Rattle.scmi_link.specs.declared.line.Line.{Line}
use Rattle.scmi_link.specs.declared.line.Line.TheVariants as line

-- the message of a line, if it is a P2A message
abbrev pub message_of : Line → Option Frame
message_of (line.P2a frame) = Some frame
message_of _ = None

-- how the agent's end was closed, if the line says so
abbrev pub closing_of : Line → Option Closing
closing_of (line.Close closing) = Some closing
closing_of _ = None

-- the P2A messages among the lines, in order
abbrev pub messages_of : List Line → List Frame
messages_of lines = filter_map message_of lines

-- the first answer among the lines of a close that was not refused
abbrev pub first_closing : List Line → Option Closing
first_closing [] = None
first_closing (line ∷ lines) = option_or (closing_of line) (first_closing lines)

-- the line says neither that a message came nor that an end was closed
pub record IsOfCall (line : Line) : Type 0 where
  pub no_message : message_of line ≡ None
  pub no_closing : closing_of line ≡ None

-- the line of a call that was answered so
abbrev pub answer_line : Answer → Line
answer_line (Reply m) = line.Got m.payload
answer_line Released = line.Got (record { items = [] })
answer_line ChannelError = line.Error
