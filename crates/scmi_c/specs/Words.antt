-- Messages as their words: the header word, and the payload words after it.
use Rattle.std.specs.Prelude.{◌≡◌, ℕ, ◌+◌, ◌<◌, ◌≤◌, ◌⊎◌, List, ◌∷◌, ◌++◌, length, drop, slice_index}
use Rattle.scmi_codec.specs.Area.{message_of}
use Rattle.scmi_codec.specs.ChannelArea.{channel_words}
use Rattle.scmi_codec.specs.Header.{header_word}
use Rattle.scmi_codec.specs.declared.frame.Frame.{Frame}
use Rattle.scmi_codec.specs.declared.frame.Frame.TheVariants.{Good}
use Rattle.scmi_codec.specs.declared.frame.Answer.{Answer}
use Rattle.scmi_codec.specs.declared.frame.Answer.TheVariants.{Reply, Released, ChannelError}
use Rattle.scmi_codec.specs.declared.message.Message.{Message}
use Rattle.scmi_plan.specs.Agent.{IsAgent}
use Rattle.scmi_plan.specs.Board.{channel_of}
use Rattle.scmi_plan.specs.declared.effect.Effect.TheVariants.{Rate}
use Rattle.scmi_core.specs.History.{answer_to}
use Rattle.scmi_core.specs.Reply.{failed_answer}
use Rattle.scmi_core.specs.declared.event.Event.{Event}
use Rattle.scmi_core.specs.declared.event.Event.TheVariants.{Command as Called, CommandFailed, Reported}
use Rattle.scmi_codec.specs.declared.fault.Fault.{Fault}
use Rattle.scmi_c.specs.Calls.{HasHappened}
use Rattle.scmi_c.specs.Kept.{Asked}
use Rattle.scmi_c.specs.Standing.{Held, StandsAt, board_of}

-- the frame of a message's words
abbrev pub frame_in : List ℕ → Frame
frame_in words = Good (message_of (slice_index words 0) (drop 1 words))

-- how many words a message has
abbrev pub count_of : Message → ℕ
count_of m = 1 + length m.payload.items

-- words over whose first a message was written
abbrev pub words_after : Message → List ℕ → List ℕ
words_after m words = (header_word m.header ∷ m.payload.items) ++ drop (count_of m) words

-- an answer is a reply, of this many words, and was written over the first
abbrev pub IsWritten : Answer → ℕ → List ℕ → List ℕ → Type 0
IsWritten (Reply m) count before after = (count ≡ count_of m) × (after ≡ words_after m before)
IsWritten Released count before after = ⊥
IsWritten ChannelError count before after = ⊥

-- the most words of a message in an agent's channel
abbrev pub most_words : ℕ → Held → ℕ
most_words agent p = 1 + (channel_of (board_of p) agent).words

-- an agent of the board; this many words are a message of its channel, and so many have room for
-- each reply
pub record FitsWords (agent words room : ℕ) (p : Held) : Type 0 where
  pub is_agent : IsAgent (length (board_of p).agents) agent
  pub some : 1 ≤ words
  pub few : words ≤ most_words agent p
  pub enough : most_words agent p ≤ room

-- an agent of the board; this many words are none, or more than its channel has, or so many have
-- not room for each reply
abbrev pub LacksWords : ℕ → ℕ → ℕ → Held → Type 0
LacksWords agent words room p =
    IsAgent (length (board_of p).agents) agent
    × ((words < 1) ⊎ (most_words agent p < words) ⊎ (room < most_words agent p))

-- so many words have not room for as long a reply as the area of a command
abbrev pub LacksRoom : ℕ → Asked → Type 0
LacksRoom room asked = room < 1 + channel_words asked.bytes

-- so many words have room for as long a reply as the area of a command
abbrev pub HasRoom : ℕ → Asked → Type 0
HasRoom room asked = 1 + channel_words asked.bytes ≤ room

-- an agent's frame was executed, and the words are the definition's reply to it at its place in the
-- history
pub record HasAnsweredWords (p k : Held) (agent : ℕ) (frame : Frame) (count : ℕ)
    (before after : List ℕ) : Type 0 where
  pub answer : (h : List Event) → StandsAt p h
      → IsWritten (answer_to (board_of p) agent frame h) count before after
  pub event : HasHappened p k (Called agent frame)

-- the same, and then a clock was reported to have a rate; the platform between is as the command
-- left it
pub record HasAnsweredWordsAtRate (p k : Held) (agent : ℕ) (frame : Frame) (clock rate count : ℕ)
    (before after : List ℕ) : Type 0 where
  pub between : Held
  pub answered : HasAnsweredWords p between agent frame count before after
  pub reported : HasHappened between k (Reported (Rate clock rate))

-- an agent's frame failed with a fault, and the words are the reply to it, the status of the fault
pub record HasFailedWords (p k : Held) (agent : ℕ) (frame : Frame) (fault : Fault) (count : ℕ)
    (before after : List ℕ) : Type 0 where
  pub answer : IsWritten (failed_answer frame fault) count before after
  pub event : HasHappened p k (CommandFailed agent frame fault)
