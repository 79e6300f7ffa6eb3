-- What an agent writes, and what it takes for the reply to it.
use Rattle.std.specs.Prelude.{◌≡◌, ◌≢◌, ℕ, ◌+◌, ◌%◌, List, Some, Ok, Err, Result}
use Rattle.scmi_codec.specs.Area.{status_at, frame_of}
use Rattle.scmi_codec.specs.Command.{command_header, command_words}
use Rattle.scmi_codec.specs.Header.{HeaderFields}
use Rattle.scmi_codec.specs.declared.command.Command.{Command}
use Rattle.scmi_codec.specs.declared.frame.Frame.TheVariants.{Good}
use Rattle.scmi_codec.specs.declared.header.TheConstants.{TOKENS}
use Rattle.scmi_codec.specs.declared.message.Message.{Message}
use Rattle.scmi_agent.specs.Answer.{answer_in}
use Rattle.scmi_agent.specs.Reply.{reply_of}
use Rattle.scmi_agent.specs.declared.agent.Agent.{Agent}
use Rattle.scmi_agent.specs.declared.error.ReadError.{ReadError}
use Rattle.scmi_agent.specs.declared.reply.Reply.{Reply}

-- the message of a command at a token
abbrev pub message_at : Command → ℕ → Message
message_at c token =
    record { header = command_header c token; payload = record { items = command_words c } }

-- the message of a command at an agent's next token
abbrev pub next_message : Agent → Command → Message
next_message a c = message_at c (a.next % TOKENS)

-- an agent after it posted a command: tokens run modulo their number
abbrev pub agent_after_post : Agent → Command → Agent
agent_after_post a c = record {
  next = (a.next % TOKENS + 1) % TOKENS;
  posted = Some (command_header c (a.next % TOKENS));
}

-- an area of a free channel, with no error bit, holds a message of exactly this header, and its
-- words say this
pub record IsReplyOf (header : HeaderFields) (area : List ℕ) (reply : Reply) : Type 0 where
  pub words : List ℕ
  pub free : status_at area % 4 ≡ 1
  pub message : frame_of area
      ≡ Good (record { header = header; payload = record { items = words } })
  pub says : reply_of header words ≡ Ok reply

-- whether a message has another header
abbrev pub HasOtherHeader : HeaderFields → Result Message ReadError → Type 0
HasOtherHeader header (Ok m) = m.header ≢ header
HasOtherHeader header (Err e) = ⊥

-- what a platform left as its answer is a message of another header
abbrev pub IsOfAnother : HeaderFields → List ℕ → Type 0
IsOfAnother header area = HasOtherHeader header (answer_in area)
