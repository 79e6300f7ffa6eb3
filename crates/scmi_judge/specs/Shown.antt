-- What an entry of a record shows.
use Rattle.std.specs.Prelude.{ℕ, ◌==◌, Bool, true, false, if◌then◌else◌, List, [], ◌∷◌, Option, Some, None, Result, Ok}
use Rattle.std.specs.Option.{option_and_then, option_map}
use Rattle.scmi_codec.specs.Command.{command_header, command_of, command_words}
use Rattle.scmi_codec.specs.Payload.{begins_with_success}
use Rattle.scmi_codec.specs.Rate.{rate_of}
use Rattle.scmi_codec.specs.Status.{status_of}
use Rattle.scmi_codec.specs.declared.clock_command.ClockCommand.TheVariants as clock
use Rattle.scmi_codec.specs.declared.command.Command as codec
use Rattle.scmi_codec.specs.declared.command.Command.TheVariants.{Power, Clock}
use Rattle.scmi_codec.specs.declared.message.Message.{Message}
use Rattle.scmi_codec.specs.declared.frame.Frame.{Frame}
use Rattle.scmi_codec.specs.declared.frame.Answer.{Answer}
use Rattle.scmi_codec.specs.declared.frame.Answer.TheVariants.{Reply, Released, ChannelError}
use Rattle.scmi_codec.specs.declared.power_command.PowerCommand.TheVariants as power
use Rattle.scmi_codec.specs.declared.status.Status.{Status}
use Rattle.scmi_codec.specs.Fault.{fault_of}
use Rattle.scmi_codec.specs.declared.fault.Fault.{Fault}
use Rattle.scmi_plan.specs.declared.report.Report.{Report}
use Rattle.scmi_judge.specs.declared.entry.Entry.{Entry}
use Rattle.scmi_judge.specs.declared.entry.Entry.TheVariants.{Answered, Asked, Delivered, GivenUp, Replied, Told}

-- the platform gave what an entry shows: an answer or a message
abbrev pub is_from_platform : Entry → Bool
is_from_platform (Answered a frame answer) = true
is_from_platform (Delivered a message) = true
is_from_platform (Asked place a frame) = false
is_from_platform (Replied place a frame answer) = true
is_from_platform (GivenUp place) = false
is_from_platform (Told report) = false

-- the frame of an entry, if it is a command of agent a with its answer
abbrev pub frame_shown : ℕ → Entry → Option Frame
frame_shown a (Answered b frame answer) = if a == b then Some frame else None
frame_shown a _ = None

-- the answer of an entry, if it is a command of agent a with its answer
abbrev pub answer_shown : ℕ → Entry → Option Answer
answer_shown a (Answered b frame answer) = if a == b then Some answer else None
answer_shown a _ = None

-- the message of an entry, if it is one that agent a took
abbrev pub message_shown : ℕ → Entry → Option Message
message_shown a (Delivered b message) = if a == b then Some message else None
message_shown a _ = None

-- what the hardware told, if an entry shows that
abbrev pub told_shown : Entry → Option Report
told_shown (Told report) = Some report
told_shown _ = None

-- whether an answer is a reply that begins with SUCCESS
abbrev pub has_succeeded : Answer → Bool
has_succeeded (Reply m) = begins_with_success m.payload.items
has_succeeded Released = false
has_succeeded ChannelError = false

-- the fault that the payload of a reply shows, if it is the status of one alone
abbrev pub fault_in_words : List ℕ → Option Fault
fault_in_words (word ∷ []) = option_and_then fault_of (status_of word)
fault_in_words _ = None

-- the fault that an answer shows, if it is a reply with the status of one alone
abbrev pub fault_shown : Answer → Option Fault
fault_shown (Reply m) = fault_in_words m.payload.items
fault_shown Released = None
fault_shown ChannelError = None

-- a command sets the state of a domain, or the rate or the configuration of a clock
abbrev pub sets_value : Result codec.Command Status → Bool
sets_value (Ok (Power (power.Set flags domain state))) = true
sets_value (Ok (Clock (clock.SetRate flags c rate))) = true
sets_value (Ok (Clock (clock.Config c attributes))) = true
sets_value _ = false

-- the set of the value that a command read, from the words of the reply
abbrev pub value_shown : Result codec.Command Status → List ℕ → Option codec.Command
value_shown (Ok (Power (power.Get domain))) (status ∷ state ∷ []) =
    Some (Power (power.Set 0 domain state))
value_shown (Ok (Clock (clock.GetRate c))) (status ∷ low ∷ high ∷ []) =
    Some (Clock (clock.SetRate 0 c (rate_of low high)))
value_shown _ _ = None

-- a command as a message with token 0
abbrev pub message_of : codec.Command → Message
message_of c = record { header = command_header c 0; payload = record { items = command_words c } }

-- the set of the value that a reply of success shows: the command itself if it is a set, or else
-- one of the value that it read
abbrev pub set_shown : Message → Message → Option Message
set_shown command reply =
    if sets_value (command_of command) then Some command
    else option_map message_of (value_shown (command_of command) reply.payload.items)
