-- The reply to a command, and the answer to a frame, by the situation of its agent.
use Rattle.std.specs.Prelude.{ℕ, Bool, nat_le, if◌then◌else◌, List, [], ◌∷◌, length, Result, Ok, Err}
use Rattle.scmi_codec.specs.declared.status.Status.{Status}
use Rattle.scmi_codec.specs.declared.message.Message.{Message}
use Rattle.scmi_codec.specs.declared.frame.Frame.{Frame}
use Rattle.scmi_codec.specs.declared.frame.Frame.TheVariants.{Good, Malformed}
use Rattle.scmi_codec.specs.declared.frame.Answer.{Answer}
use Rattle.scmi_codec.specs.declared.frame.Answer.TheVariants.{Reply, ChannelError}
use Rattle.scmi_codec.specs.Status.{status_word}
use Rattle.scmi_codec.specs.declared.command.Command as codec
use Rattle.scmi_plan.specs.Board.{Board, channel_of}
use Rattle.scmi_codec.specs.declared.fault.Fault.{Fault}
use Rattle.scmi_base.specs.Permission.{may}
use Rattle.scmi_base.specs.Protocol.{Protocol}
use Rattle.scmi_core.specs.Commands.{changes_nothing, later_effect_of, now_of, reply_by, request_of}
use Rattle.scmi_core.specs.Outbox.{failed_words, message_with}
use Rattle.scmi_core.specs.ReadCommand.{command_on}
use Rattle.scmi_core.specs.Pending.{has_set_of}
use Rattle.scmi_core.specs.Situation.{Situation, has_room, views}
use Rattle.scmi_core.specs.Value.{is_off, thing_of, value_of}

-- the payload of the reply to a command of agent a, or to a message that is not a command: its
-- status alone
unfoldable pub reply_words : Board → ℕ → Situation → Result codec.Command Status → List ℕ
reply_words board a s (Err e) = status_word e ∷ []
reply_words board a s (Ok c) = reply_by board a (views board a s) c

-- whether a message of agent a has no more payload words than its channel
abbrev pub fits_channel : Board → ℕ → Message → Bool
fits_channel board a m = nat_le (length m.payload.items) (channel_of board a).words

-- the payload of the reply that a message of agent a gets; one that is longer than its channel gets
-- none
abbrev pub words_given : Board → ℕ → Situation → Message → List ℕ
words_given board a s m = if fits_channel board a m
    then reply_words board a s (command_on board m) else []

-- the reply to a message of agent a: the message's header, and the payload
abbrev pub reply_in : Board → ℕ → Message → Situation → Message
reply_in board a m s = message_with m.header (reply_words board a s (command_on board m))

-- the answer to a frame of agent a: the reply to a message, a channel error to a malformed frame
-- and to one that is longer than its channel
abbrev pub answer_in : Board → ℕ → Frame → Situation → Answer
answer_in board a (Good m) s = if fits_channel board a m then Reply (reply_in board a m s)
    else ChannelError
answer_in board a (Malformed len header) s = ChannelError

-- the answer to a frame whose change the hardware refused: the message's header, and the status of
-- the fault alone
abbrev pub failed_answer : Frame → Fault → Answer
failed_answer (Good m) fault = Reply (message_with m.header (failed_words fault))
failed_answer (Malformed len header) fault = ChannelError

-- the commands of all protocols as the relation that each protocol is; those of the base protocol
-- change no domain and no clock
abbrev pub commands : Board → ℕ → Protocol Situation codec.Command
commands board a = record {
  may = λ s. may board s.allowed;
  busy = λ s r. has_set_of r s.pending;
  room = has_room board a;
  channel = λ s. channel_of board a;
  reply = λ on s c. reply_by on a (views board a s) c;
  now = now_of;
  later = later_effect_of;
  only_reads = changes_nothing;
  request = request_of;
  switches_off = λ e. is_off (thing_of e) (value_of e);
}
