-- The clock protocol, computed.
use Rattle.std.proofs.Common.{◌≡◌, List, [], ◌∷◌, refl}
use Rattle.scmi_base.specs.BaseReply.{base_reply}
use Rattle.scmi_power.specs.PowerReply.{may_set, power_reply}
use Rattle.scmi_clock.specs.ClockReply.{clock_reply}
use Rattle.scmi_core.specs.declared.event.Event.{Event}
use Rattle.scmi_core.specs.declared.event.Event.TheVariants.{Advance, Sent}
use Rattle.scmi_core.specs.Deed.{fold_with_prefix}
use Rattle.scmi_core.specs.Reply.{reply_words}
use Rattle.scmi_core.specs.History.{deeds}
use Rattle.scmi_core.proofs.ExampleWords.{request, replies, words_told}
use Rattle.scmi_core.specs.BoardB.{board_b}
use Rattle.scmi_core.specs.BoardC.{board_of_64_rates}

-- rates that are rounded, and set now or later
clock_rates : List Event
clock_rates =
    request 1 0 0x14 0x5 (0 ∷ 0 ∷ 250 ∷ 0 ∷ []) ∷ request 1 1 0x14 0x6 (0 ∷ [])
    ∷ request 1 2 0x14 0x5 (4 ∷ 0 ∷ 250 ∷ 0 ∷ [])
    ∷ request 1 3 0x14 0x6 (0 ∷ []) ∷ request 1 4 0x14 0x5 (8 ∷ 0 ∷ 250 ∷ 0 ∷ [])
    ∷ request 1 5 0x14 0x6 (0 ∷ [])
    ∷ request 1 6 0x14 0x5 (0 ∷ 0 ∷ 50 ∷ 0 ∷ []) ∷ request 1 7 0x14 0x5 (3 ∷ 0 ∷ 0x12c ∷ 0 ∷ [])
    ∷ Advance ∷ request 1 8 0x14 0x6 (0 ∷ [])
    ∷ request 1 9 0x14 0x5 (1 ∷ 0 ∷ 100 ∷ 0 ∷ []) ∷ Advance ∷ Sent 1 ∷ []

clock_rates-replies : replies board_b clock_rates
    ≡ (0x00005005 ∷ 0 ∷ []) ∷ (0x00045006 ∷ 0 ∷ 200 ∷ 0 ∷ []) ∷ (0x00085005 ∷ 0 ∷ [])
    ∷ (0x000c5006 ∷ 0 ∷ 0x12c ∷ 0 ∷ [])
    ∷ (0x00105005 ∷ 0 ∷ []) ∷ (0x00145006 ∷ 0 ∷ 200 ∷ 0 ∷ []) ∷ (0x00185005 ∷ 0xfffffffe ∷ [])
    ∷ (0x001c5005 ∷ 0 ∷ []) ∷ []
    ∷ (0x00205006 ∷ 0 ∷ 0x12c ∷ 0 ∷ []) ∷ (0x00245005 ∷ 0 ∷ []) ∷ [] ∷ [] ∷ []
unfolding clock_rates deeds reply_words base_reply may_set power_reply clock_reply fold_with_prefix
clock_rates-replies = refl

clock_rates-told_ap : words_told board_b 1 clock_rates
    ≡ (0x00245205 ∷ 0 ∷ 0 ∷ 100 ∷ 0 ∷ []) ∷ []
unfolding clock_rates deeds reply_words base_reply may_set power_reply clock_reply fold_with_prefix
clock_rates-told_ap = refl

clock_rates-told_modem : words_told board_b 2 clock_rates ≡ []
unfolding clock_rates deeds reply_words base_reply may_set power_reply clock_reply fold_with_prefix
clock_rates-told_modem = refl

-- the rates of a list and of steps, names, numbers and the enabled bit
clock_description : List Event
clock_description =
    request 1 0 0x14 0x4 (2 ∷ 0 ∷ []) ∷ request 1 1 0x14 0x4 (2 ∷ 15 ∷ [])
    ∷ request 1 2 0x14 0x4 (2 ∷ 20 ∷ [])
    ∷ request 1 3 0x14 0x4 (1 ∷ 7 ∷ []) ∷ request 1 4 0x14 0x3 (1 ∷ []) ∷ request 1 5 0x14 0x1 []
    ∷ request 1 6 0x14 0x7 (1 ∷ 1 ∷ [])
    ∷ request 1 7 0x14 0x3 (1 ∷ []) ∷ []

clock_description-replies : replies board_b clock_description
    ≡ (0x00005004 ∷ 0 ∷ 0x14 ∷ 1 ∷ 0 ∷ 2 ∷ 0 ∷ 3 ∷ 0 ∷ 4 ∷ 0 ∷ 5 ∷ 0 ∷ 6 ∷ 0 ∷ 7 ∷ 0 ∷ 8 ∷ 0 ∷ 9 ∷ 0
    ∷ 10 ∷ 0 ∷ 11 ∷ 0 ∷ 12 ∷ 0 ∷ 13 ∷ 0 ∷ 14 ∷ 0 ∷ 15 ∷ 0 ∷ 16 ∷ 0 ∷ 17 ∷ 0 ∷ 18 ∷ 0 ∷ 19 ∷ 0
    ∷ 20 ∷ 0 ∷ [])
    ∷ (0x00045004 ∷ 0 ∷ 5 ∷ 16 ∷ 0 ∷ 17 ∷ 0 ∷ 18 ∷ 0 ∷ 19 ∷ 0 ∷ 20 ∷ 0 ∷ [])
    ∷ (0x00085004 ∷ 0xfffffffb ∷ [])
    ∷ (0x000c5004 ∷ 0 ∷ 0x1003 ∷ 0x3e8 ∷ 0 ∷ 0xfa0 ∷ 0 ∷ 0x1f4 ∷ 0 ∷ [])
    ∷ (0x00105003 ∷ 0 ∷ 0 ∷ 0x737562 ∷ 0 ∷ 0 ∷ 0 ∷ [])
    ∷ (0x00145001 ∷ 0 ∷ 0x80003 ∷ []) ∷ (0x00185007 ∷ 0 ∷ [])
    ∷ (0x001c5003 ∷ 0 ∷ 1 ∷ 0x737562 ∷ 0 ∷ 0 ∷ 0 ∷ []) ∷ []
unfolding clock_description deeds reply_words base_reply may_set power_reply clock_reply fold_with_prefix
clock_description-replies = refl

clock_description-told_ap : words_told board_b 1 clock_description ≡ []
unfolding clock_description deeds reply_words base_reply may_set power_reply clock_reply fold_with_prefix
clock_description-told_ap = refl

clock_description-told_modem : words_told board_b 2 clock_description ≡ []
unfolding clock_description deeds reply_words base_reply may_set power_reply clock_reply fold_with_prefix
clock_description-told_modem = refl

-- a list of 64 rates, in parts of as many as a reply holds
long_description : List Event
long_description =
    request 1 0 0x14 0x4 (0 ∷ 0 ∷ []) ∷ request 1 1 0x14 0x4 (0 ∷ 31 ∷ [])
    ∷ request 1 2 0x14 0x4 (0 ∷ 62 ∷ []) ∷ request 1 3 0x14 0x4 (0 ∷ 64 ∷ []) ∷ []

long_description-replies : replies board_of_64_rates long_description
    ≡ (0x00005004 ∷ 0 ∷ 0x21001f ∷ 1 ∷ 0 ∷ 2 ∷ 0 ∷ 3 ∷ 0 ∷ 4 ∷ 0 ∷ 5 ∷ 0 ∷ 6 ∷ 0 ∷ 7 ∷ 0 ∷ 8 ∷ 0 ∷ 9
    ∷ 0 ∷ 10 ∷ 0 ∷ 11 ∷ 0 ∷ 12 ∷ 0 ∷ 13 ∷ 0 ∷ 14 ∷ 0 ∷ 15 ∷ 0 ∷ 16 ∷ 0 ∷ 17 ∷ 0 ∷ 18 ∷ 0 ∷ 19
    ∷ 0 ∷ 20 ∷ 0 ∷ 21 ∷ 0 ∷ 22 ∷ 0 ∷ 23 ∷ 0 ∷ 24 ∷ 0 ∷ 25 ∷ 0 ∷ 26 ∷ 0 ∷ 27 ∷ 0 ∷ 28 ∷ 0 ∷ 29
    ∷ 0 ∷ 30 ∷ 0 ∷ 31 ∷ 0 ∷ [])
    ∷ (0x00045004 ∷ 0 ∷ 0x2001f ∷ 32 ∷ 0 ∷ 33 ∷ 0 ∷ 34 ∷ 0 ∷ 35 ∷ 0 ∷ 36 ∷ 0 ∷ 37 ∷ 0 ∷ 38 ∷ 0 ∷ 39
    ∷ 0 ∷ 40 ∷ 0 ∷ 41 ∷ 0 ∷ 42 ∷ 0 ∷ 43 ∷ 0 ∷ 44 ∷ 0 ∷ 45 ∷ 0 ∷ 46 ∷ 0 ∷ 47 ∷ 0 ∷ 48 ∷ 0 ∷ 49
    ∷ 0 ∷ 50 ∷ 0 ∷ 51 ∷ 0 ∷ 52 ∷ 0 ∷ 53 ∷ 0 ∷ 54 ∷ 0 ∷ 55 ∷ 0 ∷ 56 ∷ 0 ∷ 57 ∷ 0 ∷ 58 ∷ 0 ∷ 59
    ∷ 0 ∷ 60 ∷ 0 ∷ 61 ∷ 0 ∷ 62 ∷ 0 ∷ [])
    ∷ (0x00085004 ∷ 0 ∷ 0x2 ∷ 63 ∷ 0 ∷ 64 ∷ 0 ∷ []) ∷ (0x000c5004 ∷ 0xfffffffb ∷ []) ∷ []
unfolding long_description deeds reply_words base_reply may_set power_reply clock_reply fold_with_prefix
long_description-replies = refl

long_description-told_agent : words_told board_of_64_rates 1 long_description ≡ []
unfolding long_description deeds reply_words base_reply may_set power_reply clock_reply fold_with_prefix
long_description-told_agent = refl
