-- The words of the table from the length on, and what they encode.
use Rattle.std.specs.Prelude.{◌≡◌, ℕ, ◌+◌, ◌-◌, ◌*◌, ◌<◌, ◌≤◌, ◌==◌, cond, false, List, [], ◌∷◌, length, replicate, slice_index, Option, Some, None}
use Rattle.scmi_codec.specs.Header.{header_of, header_word}
use Rattle.scmi_codec.specs.Area.{is_well_formed}
use Rattle.scmi_codec.specs.declared.message.Message.{Message}
use Rattle.scmi_codec.specs.declared.frame.Frame.{Frame}
use Rattle.scmi_codec.specs.declared.frame.Frame.TheVariants.{Good, Malformed}
use Rattle.scmi_codec.specs.declared.frame.Answer.{Answer}
use Rattle.scmi_codec.specs.declared.frame.Answer.TheVariants.{Reply, Released, ChannelError}
use Rattle.scmi_codec.specs.declared.payload.TheConstants.{PAYLOAD_WORDS}
use Rattle.scmi_words.specs.declared.layout.TheConstants.{LENGTH, TABLE_WORDS}
use Rattle.scmi_words.specs.declared.status_word.TheConstants.{FREE, CHANNEL_ERROR}

-- the words of a frame, from the length on
abbrev pub frame_words : Frame → List ℕ
frame_words (Good m) = (4 + 4 * length m.payload.items) ∷ header_word m.header ∷ m.payload.items
frame_words (Malformed l h) = l ∷ h ∷ []

-- the table begins with these words, from the length on
abbrev pub Begins : List ℕ → List ℕ → Type 0
Begins table words = (i : ℕ) → i < length words
    → slice_index table (LENGTH + i) ≡ slice_index words i

-- the words of a fresh area from the length on: zeros
unfoldable pub fresh_words : List ℕ
fresh_words = replicate (TABLE_WORDS - LENGTH) 0

-- the words of a fresh table: free, and zero elsewhere
unfoldable pub fresh_table : List ℕ
fresh_table = FREE ∷ replicate (TABLE_WORDS - 1) 0

-- the words that stand after an answer to a frame: the response's, or the frame's, or those of a
-- fresh area
abbrev pub settled_words : Option Answer → Option Frame → List ℕ
settled_words (Some (Reply m)) frame = frame_words (Good m)
settled_words (Some Released) (Some frame) = frame_words frame
settled_words (Some ChannelError) (Some frame) = frame_words frame
settled_words _ _ = fresh_words

-- a message has room, and its header can be read off its header word
pub record IsValidMessage (m : Message) : Type 0 where
  pub few : length m.payload.items ≤ PAYLOAD_WORDS
  pub header : header_of (header_word m.header) ≡ m.header

-- a frame is a valid message, or its length is not well formed
abbrev pub IsValid : Frame → Type 0
IsValid (Good m) = IsValidMessage m
IsValid (Malformed l h) = is_well_formed l ≡ false

-- the message of an answer, if it has one, is valid
abbrev pub IsValidAnswer : Answer → Type 0
IsValidAnswer (Reply m) = IsValidMessage m
IsValidAnswer _ = Unit {0}

-- the frame that stored words are
abbrev pub frame_in : List ℕ → Frame
frame_in (l ∷ h ∷ ps) = cond (is_well_formed l)
    (Good record { header = header_of h; payload = record { items = ps } }) (Malformed l h)
frame_in _ = Malformed 0 0

-- the words of the last frame taken
abbrev pub taken_words : Option Frame → List ℕ
taken_words (Some frame) = frame_words frame
taken_words None = []

-- the words that are stored for an answer: those of a response
abbrev pub stored_words : Answer → List ℕ
stored_words (Reply m) = frame_words (Good m)
stored_words _ = []

-- the response that stored words are
abbrev pub message_of : List ℕ → Message
message_of (l ∷ h ∷ ps) = record { header = header_of h; payload = record { items = ps } }
message_of _ = record { header = header_of 0; payload = record { items = [] } }

-- the answer that a status and the stored words make
abbrev pub answer_of : ℕ → List ℕ → Answer
answer_of status words = cond (status == FREE) (Reply (message_of words))
    (cond (status == CHANNEL_ERROR) ChannelError Released)

-- the payload words of a frame
abbrev pub frame_size : Frame → ℕ
frame_size (Good m) = length m.payload.items
frame_size (Malformed l h) = 0

-- the accesses by which a frame is posted or taken: its length, its header, its payload, and one
-- exchange of the status
abbrev pub frame_steps : Frame → ℕ
frame_steps f = frame_size f + 3

-- the accesses by which an answer is given or collected: one of the status, and for a reply its
-- length, its header and its payload
abbrev pub answer_steps : Answer → ℕ
answer_steps (Reply m) = length m.payload.items + 3
answer_steps _ = 1
