-- Lines that report a message, which the prover reads by the definitions: the frame in the area of
-- each.
use Rattle.std.proofs.Common.{◌≡◌, List, [], ◌∷◌, Option, None, Some, codes, refl}
use Rattle.std.specs.Prelude.{ℕ}
use Rattle.std.specs.Option.{option_map}
use Rattle.hex.specs.Hex.{decode_pairs}
use Rattle.scmi_codec.specs.Area.{message_of}
use Rattle.scmi_codec.specs.ChannelArea.{channel_frame, channel_waiting}
use Rattle.scmi_codec.specs.Word.{words_at}
use Rattle.scmi_codec.specs.declared.frame.Frame.{Frame}
use Rattle.scmi_codec.specs.declared.frame.Frame.TheVariants.{Good}
use Rattle.scmi_decode.specs.Event.{event_area, event_header, event_payload, signed_word}
use Rattle.scmi_decode.specs.MessageArea.{message_area, message_start}
use Rattle.scmi_decode.specs.MessageLine.{alone_bytes}

-- the frame that is in the area of a line's message
abbrev pub frame_told : List ℕ → Option Frame
frame_told line = option_map channel_frame (alone_bytes line)

-- the frame that waits there, if one does
abbrev pub waiting_told : List ℕ → Option (Option Frame)
waiting_told line = option_map channel_waiting (alone_bytes line)

-- POWER_STATE_SET with token 7: flags 1, domain 0, state 0x40000000
pub command : waiting_told (codes
    " <...>-267 [001] ..... 12.345678: scmi_msg_dump: pt=11 t=CMND msg_id=04 seq=0007 s=0 pyld=010000000000000000000040")
    ≡ Some (Some (Good (message_of 0x001C4404 (1 ∷ 0 ∷ 0x40000000 ∷ []))))
unfolding event_area event_header event_payload message_area message_start words_at decode_pairs
command = refl

-- its reply DENIED, in a free channel
pub reply : frame_told (codes "scmi_msg_dump: pt=11 t=RESP msg_id=04 seq=0007 s=-3 pyld=")
    ≡ Some (Good (message_of 0x001C4404 (0xFFFFFFFD ∷ [])))
unfolding event_area event_header event_payload signed_word message_area message_start words_at decode_pairs
reply = refl

-- which its agent has taken; its delayed response, whose payload begins with the status; and
-- POWER_STATE_CHANGED, caused by agent 1
pub others :
    (waiting_told (codes "scmi_msg_dump: pt=11 t=RESP msg_id=04 seq=0007 s=-3 pyld=") ≡ Some None)
    × (waiting_told
    (codes "scmi_msg_dump: pt=11 t=DLYD msg_id=04 seq=0007 s=0 pyld=0000000000000040")
    ≡ Some (Some (Good (message_of 0x001C4604 (0 ∷ 0 ∷ 0x40000000 ∷ [])))))
    × (waiting_told
    (codes "scmi_msg_dump: pt=11 t=NOTI msg_id=00 seq=0000 s=0 pyld=010000000000000000000000")
    ≡ Some (Some (Good (message_of 0x00004700 (1 ∷ 0 ∷ 0 ∷ [])))))
unfolding event_area event_header event_payload signed_word message_area message_start words_at decode_pairs
others = (refl, refl, refl)

-- a token of more than 10 bits
pub large_token : alone_bytes (codes "scmi_msg_dump: pt=11 t=CMND msg_id=04 seq=0400 s=0 pyld=")
    ≡ None
unfolding event_area event_header event_payload
large_token = refl

-- what an agent got by a run's own lines
pub got : frame_told (codes "1 reply 0x002c4404 0xfffffffd")
    ≡ Some (Good (message_of 0x002C4404 (0xFFFFFFFD ∷ [])))
unfolding message_area message_start words_at decode_pairs
got = refl

pub taken : frame_told (codes "2 p2a 0x00004700 0x00000001 0x00000000 0x00000000")
    ≡ Some (Good (message_of 0x00004700 (1 ∷ 0 ∷ 0 ∷ [])))
unfolding message_area message_start words_at decode_pairs
taken = refl
