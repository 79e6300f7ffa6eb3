-- The power domain protocol, computed.
use Rattle.std.proofs.Common.{◌≡◌, List, [], ◌∷◌, refl}
use Rattle.scmi_base.specs.BaseReply.{base_reply}
use Rattle.scmi_power.specs.PowerReply.{may_set, power_reply}
use Rattle.scmi_clock.specs.ClockReply.{clock_reply}
use Rattle.scmi_core.specs.declared.event.Event.{Event}
use Rattle.scmi_core.specs.declared.event.Event.TheVariants.{Advance, Sent}
use Rattle.scmi_core.specs.Deed.{fold_with_prefix}
use Rattle.scmi_core.specs.Reply.{reply_words}
use Rattle.scmi_core.specs.History.{deeds}
use Rattle.scmi_core.proofs.ExampleWords.{request, replies, words_told}
use Rattle.scmi_core.specs.BoardB.{board_b}

-- power sets: supported kinds, values, permission
power_sets : List Event
power_sets =
    request 1 0 0x11 0x1 [] ∷ request 1 1 0x11 0x4 (0 ∷ 1 ∷ 0x40000000 ∷ [])
    ∷ request 1 2 0x11 0x5 (1 ∷ [])
    ∷ request 1 3 0x11 0x4 (0 ∷ 2 ∷ 0 ∷ []) ∷ request 1 4 0x11 0x4 (0 ∷ 0 ∷ 1 ∷ [])
    ∷ request 1 5 0x11 0x4 (1 ∷ 1 ∷ 0 ∷ [])
    ∷ request 1 6 0x11 0x4 (2 ∷ 3 ∷ 0 ∷ []) ∷ request 1 7 0x11 0x4 (2 ∷ 2 ∷ 0 ∷ [])
    ∷ request 1 8 0x10 0x9 (2 ∷ 1 ∷ 0 ∷ [])
    ∷ request 2 0 0x11 0x4 (0 ∷ 1 ∷ 0 ∷ []) ∷ request 2 1 0x11 0x4 (0 ∷ 0 ∷ 0 ∷ [])
    ∷ request 2 2 0x11 0x4 (0 ∷ 2 ∷ 0 ∷ [])
    ∷ request 2 3 0x11 0x5 (1 ∷ []) ∷ []

power_sets-replies : replies board_b power_sets
    ≡ (0x00004401 ∷ 0 ∷ 3 ∷ 0 ∷ 0 ∷ 0 ∷ []) ∷ (0x00044404 ∷ 0 ∷ [])
    ∷ (0x00084405 ∷ 0 ∷ 0x40000000 ∷ []) ∷ (0x000c4404 ∷ 0xffffffff ∷ [])
    ∷ (0x00104404 ∷ 0xfffffffe ∷ []) ∷ (0x00144404 ∷ 0xffffffff ∷ [])
    ∷ (0x00184404 ∷ 0xfffffffc ∷ []) ∷ (0x001c4404 ∷ 0xfffffffe ∷ [])
    ∷ (0x00204009 ∷ 0 ∷ []) ∷ (0x00004404 ∷ 0xfffffffd ∷ []) ∷ (0x00044404 ∷ 0 ∷ [])
    ∷ (0x00084404 ∷ 0xffffffff ∷ [])
    ∷ (0x000c4405 ∷ 0 ∷ 0x40000000 ∷ []) ∷ []
unfolding power_sets deeds reply_words base_reply may_set power_reply clock_reply fold_with_prefix
power_sets-replies = refl

power_sets-told_ap : words_told board_b 1 power_sets ≡ []
unfolding power_sets deeds reply_words base_reply may_set power_reply clock_reply fold_with_prefix
power_sets-told_ap = refl

power_sets-told_modem : words_told board_b 2 power_sets ≡ []
unfolding power_sets deeds reply_words base_reply may_set power_reply clock_reply fold_with_prefix
power_sets-told_modem = refl

-- a busy domain, and power sets that are refused
refused_power_sets : List Event
refused_power_sets =
    request 1 0 0x11 0x4 (1 ∷ 0 ∷ 0 ∷ []) ∷ request 2 0 0x11 0x4 (0 ∷ 0 ∷ 0 ∷ [])
    ∷ request 1 1 0x11 0x4 (2 ∷ 0 ∷ 0 ∷ [])
    ∷ request 1 2 0x11 0x4 (2 ∷ 9 ∷ 0 ∷ []) ∷ request 1 3 0x11 0x4 (1 ∷ 1 ∷ 0 ∷ [])
    ∷ request 1 4 0x11 0x6 (1 ∷ 1 ∷ [])
    ∷ request 1 5 0x11 0x4 (0 ∷ 2 ∷ 0 ∷ []) ∷ []

refused_power_sets-replies : replies board_b refused_power_sets
    ≡ (0x00004404 ∷ 0 ∷ []) ∷ (0x00004404 ∷ 0xfffffffa ∷ []) ∷ (0x00044404 ∷ 0xfffffffe ∷ [])
    ∷ (0x00084404 ∷ 0xfffffffc ∷ [])
    ∷ (0x000c4404 ∷ 0xffffffff ∷ []) ∷ (0x00104406 ∷ 0xffffffff ∷ [])
    ∷ (0x00144404 ∷ 0xffffffff ∷ []) ∷ []
unfolding refused_power_sets deeds reply_words base_reply may_set power_reply clock_reply fold_with_prefix
refused_power_sets-replies = refl

refused_power_sets-told_ap : words_told board_b 1 refused_power_sets ≡ []
unfolding refused_power_sets deeds reply_words base_reply may_set power_reply clock_reply fold_with_prefix
refused_power_sets-told_ap = refl

refused_power_sets-told_modem : words_told board_b 2 refused_power_sets ≡ []
unfolding refused_power_sets deeds reply_words base_reply may_set power_reply clock_reply fold_with_prefix
refused_power_sets-told_modem = refl

-- a subscriber is notified of another state, and of none that stays equal
state_notification : List Event
state_notification =
    request 2 0 0x11 0x6 (0 ∷ 1 ∷ []) ∷ request 1 0 0x11 0x3 (0 ∷ [])
    ∷ request 1 1 0x11 0x4 (0 ∷ 0 ∷ 0x40000000 ∷ [])
    ∷ request 1 2 0x11 0x4 (0 ∷ 0 ∷ 0 ∷ []) ∷ Sent 2 ∷ []

state_notification-replies : replies board_b state_notification
    ≡ (0x00004406 ∷ 0 ∷ []) ∷ (0x00004403 ∷ 0 ∷ 0xe0000000 ∷ 0x757063 ∷ 0 ∷ 0 ∷ 0 ∷ [])
    ∷ (0x00044404 ∷ 0 ∷ []) ∷ (0x00084404 ∷ 0 ∷ []) ∷ [] ∷ []
unfolding state_notification deeds reply_words base_reply may_set power_reply clock_reply fold_with_prefix
state_notification-replies = refl

state_notification-told_ap : words_told board_b 1 state_notification ≡ []
unfolding state_notification deeds reply_words base_reply may_set power_reply clock_reply fold_with_prefix
state_notification-told_ap = refl

state_notification-told_modem : words_told board_b 2 state_notification
    ≡ (0x00004700 ∷ 1 ∷ 0 ∷ 0 ∷ []) ∷ []
unfolding state_notification deeds reply_words base_reply may_set power_reply clock_reply fold_with_prefix
state_notification-told_modem = refl

-- an asynchronous set, its delayed response, and the notification of its causer
delayed_response : List Event
delayed_response =
    request 1 0 0x11 0x6 (0 ∷ 1 ∷ []) ∷ request 1 1 0x11 0x4 (1 ∷ 0 ∷ 0 ∷ [])
    ∷ request 1 2 0x11 0x5 (0 ∷ []) ∷ Advance ∷ Sent 1 ∷ Sent 1
    ∷ request 1 3 0x11 0x5 (0 ∷ []) ∷ []

delayed_response-replies : replies board_b delayed_response
    ≡ (0x00004406 ∷ 0 ∷ []) ∷ (0x00044404 ∷ 0 ∷ []) ∷ (0x00084405 ∷ 0 ∷ 0x40000000 ∷ []) ∷ [] ∷ []
    ∷ [] ∷ (0x000c4405 ∷ 0 ∷ 0 ∷ []) ∷ []
unfolding delayed_response deeds reply_words base_reply may_set power_reply clock_reply fold_with_prefix
delayed_response-replies = refl

delayed_response-told_ap : words_told board_b 1 delayed_response
    ≡ (0x00044604 ∷ 0 ∷ 0 ∷ 0 ∷ []) ∷ (0x00004700 ∷ 1 ∷ 0 ∷ 0 ∷ []) ∷ []
unfolding delayed_response deeds reply_words base_reply may_set power_reply clock_reply fold_with_prefix
delayed_response-told_ap = refl

delayed_response-told_modem : words_told board_b 2 delayed_response ≡ []
unfolding delayed_response deeds reply_words base_reply may_set power_reply clock_reply fold_with_prefix
delayed_response-told_modem = refl
