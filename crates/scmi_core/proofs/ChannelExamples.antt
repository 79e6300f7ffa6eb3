-- Channels that are not whole, computed.
use Rattle.std.proofs.Common.{◌≡◌, List, [], ◌∷◌, refl}
use Rattle.scmi_codec.specs.declared.frame.Frame.TheVariants.{Good}
use Rattle.scmi_codec.specs.declared.frame.Answer.TheVariants.{ChannelError}
use Rattle.scmi_codec.specs.declared.message.Message.{Message}
use Rattle.scmi_base.specs.BaseReply.{base_reply}
use Rattle.scmi_power.specs.PowerReply.{may_set, power_reply}
use Rattle.scmi_clock.specs.ClockReply.{clock_reply}
use Rattle.scmi_core.specs.declared.event.Event.{Event}
use Rattle.scmi_core.specs.Deed.{fold_with_prefix}
use Rattle.scmi_core.specs.Reply.{reply_words}
use Rattle.scmi_core.specs.History.{answer_to, deeds}
use Rattle.scmi_core.proofs.ExampleWords.{request, replies, words_told}
use Rattle.scmi_core.specs.BoardD.{board_d}

-- a list of 16 rates on a channel of 32 words, of which 15 have room, and on one of 8 words, where
-- 3 have
short_descriptions : List Event
short_descriptions =
    request 1 0 0x14 0x4 (0 ∷ 0 ∷ []) ∷ request 1 1 0x14 0x4 (0 ∷ 15 ∷ [])
    ∷ request 2 0 0x14 0x4 (0 ∷ 0 ∷ [])
    ∷ request 2 1 0x14 0x4 (0 ∷ 15 ∷ []) ∷ request 2 2 0x14 0x4 (0 ∷ 16 ∷ [])
    ∷ request 2 3 0x10 0x6 (0 ∷ []) ∷ []

short_descriptions-replies : replies board_d short_descriptions
    ≡ (0x00005004 ∷ 0 ∷ 0x1000f ∷ 100 ∷ 0 ∷ 200 ∷ 0 ∷ 300 ∷ 0 ∷ 400 ∷ 0 ∷ 500 ∷ 0 ∷ 600 ∷ 0
    ∷ 700 ∷ 0 ∷ 800 ∷ 0 ∷ 900 ∷ 0 ∷ 1000 ∷ 0 ∷ 1100 ∷ 0 ∷ 1200 ∷ 0 ∷ 1300 ∷ 0 ∷ 1400 ∷ 0
    ∷ 1500 ∷ 0 ∷ [])
    ∷ (0x00045004 ∷ 0 ∷ 1 ∷ 1600 ∷ 0 ∷ [])
    ∷ (0x00005004 ∷ 0 ∷ 0xd0003 ∷ 100 ∷ 0 ∷ 200 ∷ 0 ∷ 300 ∷ 0 ∷ [])
    ∷ (0x00045004 ∷ 0 ∷ 1 ∷ 1600 ∷ 0 ∷ []) ∷ (0x00085004 ∷ 0xfffffffb ∷ [])
    ∷ (0x000c4006 ∷ 0 ∷ 2 ∷ 0x1411 ∷ []) ∷ []
unfolding short_descriptions deeds reply_words base_reply may_set power_reply clock_reply fold_with_prefix
short_descriptions-replies = refl

-- what an agent is offered that the platform can't send to, and what it is refused: after what its
-- ids and values are refused for, and before its permission is checked
one_way_agent : List Event
one_way_agent =
    request 2 0 0x14 0x1 [] ∷ request 2 1 0x11 0x3 (0 ∷ []) ∷ request 1 0 0x14 0x1 []
    ∷ request 1 1 0x11 0x3 (0 ∷ [])
    ∷ request 2 2 0x14 0x5 (1 ∷ 0 ∷ 200 ∷ 0 ∷ []) ∷ request 2 3 0x14 0x5 (3 ∷ 0 ∷ 200 ∷ 0 ∷ [])
    ∷ request 2 4 0x14 0x5 (0 ∷ 0 ∷ 200 ∷ 0 ∷ [])
    ∷ request 2 5 0x11 0x4 (1 ∷ 0 ∷ 0 ∷ []) ∷ request 2 6 0x11 0x6 (0 ∷ 1 ∷ [])
    ∷ request 2 7 0x11 0x6 (0 ∷ 0 ∷ [])
    ∷ request 2 8 0x14 0x5 (1 ∷ 9 ∷ 200 ∷ 0 ∷ []) ∷ request 2 9 0x14 0x5 (0x11 ∷ 0 ∷ 200 ∷ 0 ∷ [])
    ∷ request 1 2 0x10 0x9 (2 ∷ 0 ∷ 0 ∷ [])
    ∷ request 2 10 0x14 0x5 (1 ∷ 0 ∷ 200 ∷ 0 ∷ []) ∷ request 2 11 0x14 0x5 (0 ∷ 0 ∷ 200 ∷ 0 ∷ [])
    ∷ request 2 12 0x11 0x4 (0 ∷ 0 ∷ 0 ∷ []) ∷ []

one_way_agent-replies : replies board_d one_way_agent
    ≡ (0x00005001 ∷ 0 ∷ 1 ∷ []) ∷ (0x00044403 ∷ 0 ∷ 0x20000000 ∷ 0x757063 ∷ 0 ∷ 0 ∷ 0 ∷ [])
    ∷ (0x00005001 ∷ 0 ∷ 0x80001 ∷ [])
    ∷ (0x00044403 ∷ 0 ∷ 0xe0000000 ∷ 0x757063 ∷ 0 ∷ 0 ∷ 0 ∷ []) ∷ (0x00085005 ∷ 0xffffffff ∷ [])
    ∷ (0x000c5005 ∷ 0xffffffff ∷ [])
    ∷ (0x00105005 ∷ 0 ∷ []) ∷ (0x00144404 ∷ 0xffffffff ∷ []) ∷ (0x00184406 ∷ 0xffffffff ∷ [])
    ∷ (0x001c4406 ∷ 0xffffffff ∷ [])
    ∷ (0x00205005 ∷ 0xfffffffc ∷ []) ∷ (0x00245005 ∷ 0xfffffffe ∷ []) ∷ (0x00084009 ∷ 0 ∷ [])
    ∷ (0x00285005 ∷ 0xffffffff ∷ [])
    ∷ (0x002c5005 ∷ 0xfffffffd ∷ []) ∷ (0x00304404 ∷ 0xfffffffd ∷ []) ∷ []
unfolding one_way_agent deeds reply_words base_reply may_set power_reply clock_reply fold_with_prefix
one_way_agent-replies = refl

one_way_agent-told : words_told board_d 2 one_way_agent ≡ []
unfolding one_way_agent deeds reply_words base_reply may_set power_reply clock_reply fold_with_prefix
one_way_agent-told = refl

-- messages of 8 and of 9 payload words on a channel of 8: the first is read, and has too many words
-- for its command
nine_words : List Event
nine_words =
    request 2 0 0x10 0x0 (1 ∷ 2 ∷ 3 ∷ 4 ∷ 5 ∷ 6 ∷ 7 ∷ 8 ∷ [])
    ∷ request 2 1 0x10 0x0 (1 ∷ 2 ∷ 3 ∷ 4 ∷ 5 ∷ 6 ∷ 7 ∷ 8 ∷ 9 ∷ []) ∷ []

nine_words-replies : replies board_d nine_words
    ≡ (0x00004000 ∷ 0xfffffff6 ∷ []) ∷ (0x00044000 ∷ []) ∷ []
unfolding nine_words deeds reply_words base_reply may_set power_reply clock_reply fold_with_prefix
nine_words-replies = refl

-- a message of 9 words, whatever it is
long_message : Message
long_message = record {
  header = record { reserved = 0; token = 1; protocol = 0x10; kind = 0; id = 0 };
  payload = record { items = 1 ∷ 2 ∷ 3 ∷ 4 ∷ 5 ∷ 6 ∷ 7 ∷ 8 ∷ 9 ∷ [] };
}

long_message-answer : (h : List Event) → answer_to board_d 2 (Good long_message) h ≡ ChannelError
unfolding long_message
long_message-answer h = refl
