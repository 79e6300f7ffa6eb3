-- Delayed responses, type 2, and notifications, type 3, as the platform posts them in an agent's
-- P2A channel.
use Rattle.std.specs.Prelude.{ℕ, ◌==◌, ◌&&◌, if◌then◌else◌, List, [], length, Option, Some, None, Result, Ok, Err, slice_index}
use Rattle.std.specs.Option.{option_map_or}
use Rattle.scmi_codec.specs.Area.{frame_waiting}
use Rattle.scmi_codec.specs.Header.{HeaderFields}
use Rattle.scmi_codec.specs.Listing.{listed_row}
use Rattle.scmi_codec.specs.Rate.{rate_of}
use Rattle.scmi_codec.specs.declared.frame.Frame.{Frame}
use Rattle.scmi_codec.specs.declared.message.Message.{Message}
use Rattle.scmi_codec.specs.declared.messages.Part.{Part}
use Rattle.scmi_agent.specs.Answer.{message_in}
use Rattle.scmi_agent.specs.Reading.{exactly}
use Rattle.scmi_agent.specs.Reply.{said_by}
use Rattle.scmi_agent.specs.declared.error.ReadError.{ReadError}
use Rattle.scmi_agent.specs.declared.error.ReadError.TheVariants.{Nothing, Foreign, WrongWords}
use Rattle.scmi_agent.specs.declared.notice.Notice.{Notice}
use Rattle.scmi_agent.specs.declared.notice.Notice.TheVariants.{StateSet, StateSetRefused, RateSet, RateSetRefused, StateChanged}

-- the parts of the delayed response to a message after its status
abbrev pub later_parts : ℕ → ℕ → List Part
later_parts protocol id = option_map_or (λ row. row.later) (listed_row protocol id) []

-- payload words as the delayed response to the state set of a token
abbrev pub state_set_of : ℕ → List ℕ → Result Notice ReadError
state_set_of token words = said_by
    (exactly (λ w. StateSet token (slice_index w 0) (slice_index w 1)) (later_parts 0x11 0x4))
    (StateSetRefused token) words

-- payload words as the delayed response to the rate set of a token
abbrev pub rate_set_of : ℕ → List ℕ → Result Notice ReadError
rate_set_of token words =
    said_by (exactly (λ w. RateSet token (slice_index w 0) (rate_of (slice_index w 1)
    (slice_index w 2))) (later_parts 0x14 0x5)) (RateSetRefused token) words

-- payload words as the delayed response of a header
abbrev pub delayed_of : HeaderFields → List ℕ → Result Notice ReadError
delayed_of h words =
    if (h.protocol == 0x11) && (h.id == 0x4) then state_set_of h.token words
    else if (h.protocol == 0x14) && (h.id == 0x5) then rate_set_of h.token words
    else Err Foreign

-- payload words as the notification of a header: that of a state has the agent, the domain and its
-- state
abbrev pub change_of : HeaderFields → List ℕ → Result Notice ReadError
change_of h words =
    if (h.protocol == 0x11) && (h.id == 0x0) then
    (if length words == 3 then Ok (StateChanged (slice_index words 0) (slice_index words 1)
    (slice_index words 2)) else Err WrongWords)
    else Err Foreign

-- what a message says
abbrev pub notice_of : Message → Result Notice ReadError
notice_of m =
    if m.header.kind == 2 then delayed_of m.header m.payload.items
    else if m.header.kind == 3 then change_of m.header m.payload.items
    else Err Foreign

-- a message that was read, or why there is none
abbrev pub notice_read : Result Message ReadError → Result Notice ReadError
notice_read (Ok m) = notice_of m
notice_read (Err e) = Err e

-- what the frame says that waits in a channel
abbrev pub notice_waiting : Option Frame → Result Notice ReadError
notice_waiting None = Err Nothing
notice_waiting (Some frame) = notice_read (message_in frame)

-- what is in an agent's P2A channel
abbrev pub notice_in : List ℕ → Result Notice ReadError
notice_in area = notice_waiting (frame_waiting area)
