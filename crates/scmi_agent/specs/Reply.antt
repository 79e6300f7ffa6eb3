-- Replies: a status, and behind SUCCESS what the message gives.
use Rattle.std.specs.Prelude.{ℕ, ◌==◌, if◌then◌else◌, List, [], ◌∷◌, length, Option, Some, None, Result, Ok, Err}
use Rattle.std.specs.Option.{option_map}
use Rattle.scmi_codec.specs.Header.{HeaderFields}
use Rattle.scmi_codec.specs.Status.{status_of}
use Rattle.scmi_codec.specs.declared.status.Status.{Status}
use Rattle.scmi_codec.specs.declared.status.Status.TheVariants.{Success}
use Rattle.scmi_agent.specs.BaseReply.{base_reply}
use Rattle.scmi_agent.specs.PowerReply.{power_reply}
use Rattle.scmi_agent.specs.ClockReply.{clock_reply}
use Rattle.scmi_agent.specs.declared.error.ReadError.{ReadError}
use Rattle.scmi_agent.specs.declared.error.ReadError.TheVariants.{WrongWords, UnknownStatus}
use Rattle.scmi_agent.specs.declared.reply.Reply.{Reply}
use Rattle.scmi_agent.specs.declared.reply.Reply.TheVariants.{Base, Power, Clock, Refused}

-- what words behind SUCCESS give as the reply to a message, by its protocol and id
abbrev pub given_by : ℕ → ℕ → List ℕ → Option Reply
given_by protocol id words =
    if protocol == 0x10 then option_map Base (base_reply id words)
    else if protocol == 0x11 then option_map Power (power_reply id words)
    else if protocol == 0x14 then option_map Clock (clock_reply id words)
    else None

-- what was read, or that there are too many or too few words
abbrev pub or_wrong_words : {C : Type 0} → Option C → Result C ReadError
or_wrong_words (Some x) = Ok x
or_wrong_words None = Err WrongWords

-- what words behind a status say: those behind SUCCESS by one reading, and behind any other there
-- are none
abbrev pub said_behind : {C : Type 0} → (List ℕ → Option C) → (Status → C) → Option Status → List ℕ
    → Result C ReadError
said_behind read refused None words = Err UnknownStatus
said_behind read refused (Some Success) words = or_wrong_words (read words)
said_behind read refused (Some status) words = if length words == 0 then Ok (refused status)
    else Err WrongWords

-- what payload words say that begin with a status
abbrev pub said_by : {C : Type 0} → (List ℕ → Option C) → (Status → C) → List ℕ → Result C ReadError
said_by read refused [] = Err WrongWords
said_by read refused (word ∷ words) = said_behind read refused (status_of word) words

-- what payload words say as the reply to a command of this header
abbrev pub reply_of : HeaderFields → List ℕ → Result Reply ReadError
reply_of h words = said_by (given_by h.protocol h.id) Refused words
