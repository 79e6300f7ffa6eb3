-- The words of the worked examples.
use Rattle.std.specs.Prelude.{ℕ, List, [], ◌∷◌, map}
use Rattle.scmi_codec.specs.Header.{header_of, header_word}
use Rattle.scmi_codec.specs.declared.frame.Frame.TheVariants.{Good}
use Rattle.scmi_plan.specs.Board.{Board}
use Rattle.scmi_core.specs.declared.event.Event.{Event}
use Rattle.scmi_codec.specs.declared.fault.Fault.{Fault}
use Rattle.scmi_core.specs.declared.event.Event.TheVariants.{Command, CommandFailed}
use Rattle.scmi_core.specs.Deed.{Deed}
use Rattle.scmi_core.specs.Outbox.{messages_made}
use Rattle.scmi_core.specs.History.{deeds}

-- agent a posts a message of this header word and these payload words
abbrev pub message : ℕ → ℕ → List ℕ → Event
message a word words =
    Command a (Good (record { header = header_of word; payload = record { items = words } }))

-- agent a posts a command: its token, protocol and message id, and its payload words
abbrev pub request : ℕ → ℕ → ℕ → ℕ → List ℕ → Event
request a token protocol id words =
    Command a (Good (record {
      header = record {
        reserved = 0;
        token = token;
        protocol = protocol;
        kind = 0;
        id = id;
      };
      payload = record { items = words };
    }))

-- the same of a command that the hardware refuses with a fault
abbrev pub request_failed : ℕ → ℕ → ℕ → ℕ → List ℕ → Fault → Event
request_failed a token protocol id words fault =
    CommandFailed a (Good (record {
      header = record {
        reserved = 0;
        token = token;
        protocol = protocol;
        kind = 0;
        id = id;
      };
      payload = record { items = words };
    })) fault

-- the header word and the payload words of the reply that an event got; nothing for one that is no
-- message
abbrev pub reply_line : Deed → List ℕ
reply_line deed = line deed.event where
  line : Event → List ℕ
  line (Command a (Good m)) = header_word m.header ∷ deed.reply
  line (CommandFailed a (Good m) fault) = header_word m.header ∷ deed.reply
  line _ = []

-- the replies of a history, in order
abbrev pub replies : Board → List Event → List (List ℕ)
replies board h = map reply_line (deeds board h)

-- the header word and the payload words of each message that was made for agent a, in order
abbrev pub words_told : Board → ℕ → List Event → List (List ℕ)
words_told board a h =
    map (λ m. header_word m.header ∷ m.payload.items) (messages_made board a (deeds board h))
