-- The shared area of a channel (DEN0056B, shared memory transport).
use Rattle.std.specs.Prelude.{Bool, ◌≡◌, ℕ, ◌+◌, ◌*◌, ◌/◌, ◌-◌, ◌%◌, ◌<◌, ◌≤◌, ◌==◌, nat_le, ◌&&◌, ◌⊎◌, if◌then◌else◌, List, length, Option, Some, None}
use Rattle.scmi_codec.specs.Word.{word_at, words_at, put_word, put_words}
use Rattle.scmi_codec.specs.Header.{header_of, header_word}
use Rattle.scmi_codec.specs.declared.payload.TheConstants.{PAYLOAD_WORDS}
use Rattle.scmi_codec.specs.declared.message.Message.{Message}
use Rattle.scmi_codec.specs.declared.frame.Frame.{Frame}
use Rattle.scmi_codec.specs.declared.frame.Frame.TheVariants.{Good, Malformed}
use Rattle.scmi_codec.specs.declared.frame.Answer.{Answer}
use Rattle.scmi_codec.specs.declared.frame.Answer.TheVariants.{Reply, Released, ChannelError}

-- whether a length in bytes is 4 + 4k, k from 0 to this many words (own)
abbrev pub is_well_formed_within : ℕ → ℕ → Bool
is_well_formed_within words n = nat_le 4 n && (nat_le n (4 + 4 * words) && (n % 4 == 0))

-- whether a length in bytes is 4 + 4k, k from 0 to the most words of a payload (own)
abbrev pub is_well_formed : ℕ → Bool
is_well_formed n = is_well_formed_within PAYLOAD_WORDS n

-- the channel status word of an area
abbrev pub status_at : List ℕ → ℕ
status_at area = word_at 0x04 area

-- the length of header and payload in bytes, as it is in an area
abbrev pub length_at : List ℕ → ℕ
length_at area = word_at 0x14 area

-- the header word of an area
abbrev pub header_at : List ℕ → ℕ
header_at area = word_at 0x18 area

-- the frame that an area of this many payload words encodes
abbrev pub frame_within : ℕ → List ℕ → Frame
frame_within words area =
    if is_well_formed_within words (length_at area)
    then Good (record {
      header = header_of (header_at area);
      payload = record { items = words_at 0x1C ((length_at area - 4) / 4) area };
    })
    else Malformed (length_at area) (header_at area)

-- the frame that an area encodes
abbrev pub frame_of : List ℕ → Frame
frame_of area = frame_within PAYLOAD_WORDS area

-- the message of a header word and payload words
abbrev pub message_of : ℕ → List ℕ → Message
message_of word words = record { header = header_of word; payload = record { items = words } }

-- what a callee finds in an area of this many payload words: nothing while the channel is free
abbrev pub waiting_within : ℕ → List ℕ → Option Frame
waiting_within words area = if status_at area % 2 == 1 then None else Some (frame_within words area)

-- what a callee finds: nothing while the channel is free
abbrev pub frame_waiting : List ℕ → Option Frame
frame_waiting area = waiting_within PAYLOAD_WORDS area

-- an area of this many payload words encodes a status and a frame
pub record StandsWithin (words : ℕ) (area : List ℕ) (s : ℕ) (f : Frame) : Type 0 where
  pub status : status_at area ≡ s
  pub frame : frame_within words area ≡ f

-- an area encodes a status and a frame
abbrev pub StandsFor : List ℕ → ℕ → Frame → Type 0
StandsFor area s f = StandsWithin PAYLOAD_WORDS area s f

-- an area of this many payload words encodes an answer to a frame
abbrev pub StandsForAnswerWithin : ℕ → List ℕ → Frame → Answer → Type 0
StandsForAnswerWithin words area frame (Reply m) = StandsWithin words area 1 (Good m)
StandsForAnswerWithin words area frame Released = StandsWithin words area 1 frame
StandsForAnswerWithin words area frame ChannelError = StandsWithin words area 3 frame

-- an area encodes an answer to a frame
abbrev pub StandsForAnswer : List ℕ → Frame → Answer → Type 0
StandsForAnswer area frame answer = StandsForAnswerWithin PAYLOAD_WORDS area frame answer

-- a byte that is none of the status word, the length, the header and a message's payload
abbrev pub IsOutside : Message → ℕ → Type 0
IsOutside m i = (i < 0x04) ⊎ ((0x08 ≤ i) × (i < 0x14)) ⊎ (0x1C + 4 * length m.payload.items ≤ i)

-- a byte that an answer doesn't touch
abbrev pub IsUntouched : Answer → ℕ → Type 0
IsUntouched (Reply m) i = IsOutside m i
IsUntouched Released i = (i < 0x04) ⊎ (0x08 ≤ i)
IsUntouched ChannelError i = (i < 0x04) ⊎ (0x08 ≤ i)

-- an area after a message was written into it, and then its status word
abbrev pub area_after_write : ℕ → Message → List ℕ → List ℕ
area_after_write status m area =
    put_word 0x04 status (put_words 0x1C m.payload.items (put_word 0x18 (header_word m.header)
    (put_word 0x14 (4 + 4 * length m.payload.items) area)))

-- an area after a caller posted a message: the channel is no longer free
abbrev pub area_after_post : Message → List ℕ → List ℕ
area_after_post m area = area_after_write 0 m area

-- an area after an answer
abbrev pub area_after_answer : Answer → List ℕ → List ℕ
area_after_answer (Reply m) area = area_after_write 1 m area
area_after_answer Released area = put_word 0x04 1 area
area_after_answer ChannelError area = put_word 0x04 3 area
