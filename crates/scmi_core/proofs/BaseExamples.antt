-- The base protocol, computed.
use Rattle.std.proofs.Common.{◌≡◌, List, [], ◌∷◌, refl}
use Rattle.scmi_codec.specs.Listing.{rows_of}
use Rattle.scmi_base.specs.BaseReply.{base_reply}
use Rattle.scmi_power.specs.PowerReply.{may_set, power_reply}
use Rattle.scmi_clock.specs.ClockReply.{clock_reply}
use Rattle.scmi_core.specs.declared.event.Event.{Event}
use Rattle.scmi_core.specs.Deed.{fold_with_prefix}
use Rattle.scmi_core.specs.Reply.{reply_words}
use Rattle.scmi_core.specs.History.{deeds}
use Rattle.scmi_core.proofs.ExampleWords.{request, message, replies, words_told}
use Rattle.scmi_core.specs.BoardB.{board_b, board_of_two_holders}

-- a token of 1,023, the highest
highest_token : List Event
highest_token =
    message 1 0x0ffc4000 [] ∷ []

highest_token-replies : replies board_b highest_token
    ≡ (0x0ffc4000 ∷ 0 ∷ 0x20000 ∷ []) ∷ []
unfolding highest_token deeds reply_words base_reply may_set power_reply clock_reply fold_with_prefix
highest_token-replies = refl

highest_token-told_ap : words_told board_b 1 highest_token ≡ []
unfolding highest_token deeds reply_words base_reply may_set power_reply clock_reply fold_with_prefix
highest_token-told_ap = refl

highest_token-told_modem : words_told board_b 2 highest_token ≡ []
unfolding highest_token deeds reply_words base_reply may_set power_reply clock_reply fold_with_prefix
highest_token-told_modem = refl

-- the ids of the other protocols, after the first that are skipped
protocol_list : List Event
protocol_list =
    request 1 0 0x10 0x6 (0 ∷ []) ∷ request 1 1 0x10 0x6 (2 ∷ []) ∷ request 1 2 0x10 0x6 (3 ∷ [])
    ∷ request 1 3 0x10 0x6 (1 ∷ []) ∷ []

protocol_list-replies : replies board_b protocol_list
    ≡ (0x00004006 ∷ 0 ∷ 2 ∷ 0x1411 ∷ []) ∷ (0x00044006 ∷ 0 ∷ 0 ∷ [])
    ∷ (0x00084006 ∷ 0xfffffffe ∷ []) ∷ (0x000c4006 ∷ 0 ∷ 1 ∷ 20 ∷ []) ∷ []
unfolding protocol_list deeds reply_words base_reply may_set power_reply clock_reply fold_with_prefix
protocol_list-replies = refl

protocol_list-told_ap : words_told board_b 1 protocol_list ≡ []
unfolding protocol_list deeds reply_words base_reply may_set power_reply clock_reply fold_with_prefix
protocol_list-told_ap = refl

protocol_list-told_modem : words_told board_b 2 protocol_list ≡ []
unfolding protocol_list deeds reply_words base_reply may_set power_reply clock_reply fold_with_prefix
protocol_list-told_modem = refl

-- numbers and names of the board
discovery : List Event
discovery =
    request 1 0 0x10 0x1 [] ∷ request 1 1 0x10 0x7 (0xffffffff ∷ []) ∷ request 1 2 0x10 0x3 []
    ∷ request 1 3 0x10 0x7 (0 ∷ [])
    ∷ request 1 4 0x10 0x7 (3 ∷ []) ∷ []

discovery-replies : replies board_b discovery
    ≡ (0x00004001 ∷ 0 ∷ 0x202 ∷ []) ∷ (0x00044007 ∷ 0 ∷ 1 ∷ 0x7061 ∷ 0 ∷ 0 ∷ 0 ∷ [])
    ∷ (0x00084003 ∷ 0 ∷ 0x656d6341 ∷ 0 ∷ 0 ∷ 0 ∷ [])
    ∷ (0x000c4007 ∷ 0 ∷ 0 ∷ 0x74616c70 ∷ 0x6d726f66 ∷ 0 ∷ 0 ∷ [])
    ∷ (0x00104007 ∷ 0xfffffffc ∷ []) ∷ []
unfolding discovery deeds reply_words base_reply may_set power_reply clock_reply fold_with_prefix
discovery-replies = refl

discovery-told_ap : words_told board_b 1 discovery ≡ []
unfolding discovery deeds reply_words base_reply may_set power_reply clock_reply fold_with_prefix
discovery-told_ap = refl

discovery-told_modem : words_told board_b 2 discovery ≡ []
unfolding discovery deeds reply_words base_reply may_set power_reply clock_reply fold_with_prefix
discovery-told_modem = refl

-- commands that are unknown, and a message that is no command
unknown_commands : List Event
unknown_commands =
    request 1 0 0x15 0x0 [] ∷ request 1 1 0x10 0x8 [] ∷ request 1 2 0x10 0x2 (8 ∷ [])
    ∷ request 1 3 0x10 0x2 (9 ∷ [])
    ∷ message 1 0x00004100 [] ∷ []

unknown_commands-replies : replies board_b unknown_commands
    ≡ (0x00005400 ∷ 0xffffffff ∷ []) ∷ (0x00044008 ∷ 0xffffffff ∷ [])
    ∷ (0x00084002 ∷ 0xfffffffc ∷ []) ∷ (0x000c4002 ∷ 0 ∷ 0 ∷ [])
    ∷ (0x00004100 ∷ 0xfffffff6 ∷ []) ∷ []
unfolding unknown_commands rows_of deeds reply_words base_reply may_set power_reply clock_reply fold_with_prefix
unknown_commands-replies = refl

unknown_commands-told_ap : words_told board_b 1 unknown_commands ≡ []
unfolding unknown_commands rows_of deeds reply_words base_reply may_set power_reply clock_reply fold_with_prefix
unknown_commands-told_ap = refl

unknown_commands-told_modem : words_told board_b 2 unknown_commands ≡ []
unfolding unknown_commands rows_of deeds reply_words base_reply may_set power_reply clock_reply fold_with_prefix
unknown_commands-told_modem = refl

-- a denied agent, and a reset that allows it again
permissions : List Event
permissions =
    request 1 0 0x10 0x9 (2 ∷ 0 ∷ 0 ∷ []) ∷ request 2 0 0x11 0x4 (0 ∷ 0 ∷ 0 ∷ [])
    ∷ request 2 1 0x11 0x5 (0 ∷ [])
    ∷ request 2 2 0x10 0x9 (2 ∷ 0 ∷ 1 ∷ []) ∷ request 2 3 0x11 0x6 (2 ∷ 1 ∷ [])
    ∷ request 1 1 0x10 0xb (2 ∷ 1 ∷ [])
    ∷ request 2 4 0x11 0x4 (0 ∷ 0 ∷ 0 ∷ []) ∷ request 1 2 0x10 0x9 (2 ∷ 5 ∷ 0 ∷ []) ∷ []

permissions-replies : replies board_b permissions
    ≡ (0x00004009 ∷ 0 ∷ []) ∷ (0x00004404 ∷ 0xfffffffd ∷ []) ∷ (0x00044405 ∷ 0 ∷ 0x40000000 ∷ [])
    ∷ (0x00084009 ∷ 0xfffffffd ∷ [])
    ∷ (0x000c4406 ∷ 0 ∷ []) ∷ (0x0004400b ∷ 0 ∷ []) ∷ (0x00104404 ∷ 0 ∷ [])
    ∷ (0x00084009 ∷ 0xfffffffc ∷ []) ∷ []
unfolding permissions deeds reply_words base_reply may_set power_reply clock_reply fold_with_prefix
permissions-replies = refl

permissions-told_ap : words_told board_b 1 permissions ≡ []
unfolding permissions deeds reply_words base_reply may_set power_reply clock_reply fold_with_prefix
permissions-told_ap = refl

permissions-told_modem : words_told board_b 2 permissions ≡ []
unfolding permissions deeds reply_words base_reply may_set power_reply clock_reply fold_with_prefix
permissions-told_modem = refl

-- permissions of a device, and resets without and with them
permission_of_device : List Event
permission_of_device =
    request 1 0 0x10 0x9 (2 ∷ 1 ∷ 0 ∷ []) ∷ request 2 0 0x11 0x4 (0 ∷ 1 ∷ 0 ∷ [])
    ∷ request 2 1 0x11 0x4 (0 ∷ 0 ∷ 0 ∷ [])
    ∷ request 2 2 0x11 0x6 (2 ∷ 1 ∷ []) ∷ request 2 3 0x10 0x9 (2 ∷ 1 ∷ 1 ∷ [])
    ∷ request 1 1 0x10 0x9 (1 ∷ 1 ∷ 0 ∷ [])
    ∷ request 1 2 0x11 0x4 (0 ∷ 1 ∷ 0 ∷ []) ∷ request 1 3 0x10 0xb (2 ∷ 0 ∷ [])
    ∷ request 2 4 0x11 0x4 (0 ∷ 1 ∷ 0 ∷ [])
    ∷ request 1 4 0x10 0xb (2 ∷ 1 ∷ []) ∷ request 2 5 0x11 0x4 (0 ∷ 1 ∷ 0 ∷ [])
    ∷ request 1 5 0x10 0xb (0 ∷ 2 ∷ [])
    ∷ request 1 6 0x10 0x9 (3 ∷ 0 ∷ 2 ∷ []) ∷ request 1 7 0x10 0x9 (2 ∷ 2 ∷ 0 ∷ [])
    ∷ request 2 6 0x10 0x9 (2 ∷ 0 ∷ 2 ∷ []) ∷ []

permission_of_device-replies : replies board_b permission_of_device
    ≡ (0x00004009 ∷ 0 ∷ []) ∷ (0x00004404 ∷ 0xfffffffd ∷ []) ∷ (0x00044404 ∷ 0 ∷ [])
    ∷ (0x00084406 ∷ 0 ∷ []) ∷ (0x000c4009 ∷ 0xfffffffd ∷ [])
    ∷ (0x00044009 ∷ 0 ∷ []) ∷ (0x00084404 ∷ 0xfffffffd ∷ []) ∷ (0x000c400b ∷ 0 ∷ [])
    ∷ (0x00104404 ∷ 0xfffffffd ∷ [])
    ∷ (0x0010400b ∷ 0 ∷ []) ∷ (0x00144404 ∷ 0 ∷ []) ∷ (0x0014400b ∷ 0xfffffffc ∷ [])
    ∷ (0x00184009 ∷ 0xfffffffc ∷ [])
    ∷ (0x001c4009 ∷ 0xfffffffc ∷ []) ∷ (0x00184009 ∷ 0xfffffffe ∷ []) ∷ []
unfolding permission_of_device deeds reply_words base_reply may_set power_reply clock_reply fold_with_prefix
permission_of_device-replies = refl

permission_of_device-told_ap : words_told board_b 1 permission_of_device ≡ []
unfolding permission_of_device deeds reply_words base_reply may_set power_reply clock_reply fold_with_prefix
permission_of_device-told_ap = refl

permission_of_device-told_modem : words_told board_b 2 permission_of_device ≡ []
unfolding permission_of_device deeds reply_words base_reply may_set power_reply clock_reply fold_with_prefix
permission_of_device-told_modem = refl

-- one device that holds a domain is enough
two_devices : List Event
two_devices =
    request 1 0 0x10 0x9 (2 ∷ 0 ∷ 0 ∷ []) ∷ request 2 0 0x11 0x4 (0 ∷ 0 ∷ 0 ∷ [])
    ∷ request 1 1 0x10 0x9 (2 ∷ 1 ∷ 0 ∷ [])
    ∷ request 2 1 0x11 0x4 (0 ∷ 0 ∷ 0 ∷ []) ∷ []

two_devices-replies : replies board_of_two_holders two_devices
    ≡ (0x00004009 ∷ 0 ∷ []) ∷ (0x00004404 ∷ 0 ∷ []) ∷ (0x00044009 ∷ 0 ∷ [])
    ∷ (0x00044404 ∷ 0xfffffffd ∷ []) ∷ []
unfolding two_devices deeds reply_words base_reply may_set power_reply clock_reply fold_with_prefix
two_devices-replies = refl

two_devices-told_ap : words_told board_of_two_holders 1 two_devices ≡ []
unfolding two_devices deeds reply_words base_reply may_set power_reply clock_reply fold_with_prefix
two_devices-told_ap = refl

two_devices-told_modem : words_told board_of_two_holders 2 two_devices ≡ []
unfolding two_devices deeds reply_words base_reply may_set power_reply clock_reply fold_with_prefix
two_devices-told_modem = refl

-- permissions for each protocol, beside those for a device as a whole
protocol_permissions : List Event
protocol_permissions =
    request 1 0 0x10 0xa (2 ∷ 0 ∷ 0x14 ∷ 0 ∷ []) ∷ request 2 0 0x14 0x5 (0 ∷ 0 ∷ 300 ∷ 0 ∷ [])
    ∷ request 2 1 0x11 0x4 (0 ∷ 0 ∷ 0 ∷ [])
    ∷ request 1 1 0x10 0x9 (2 ∷ 0 ∷ 0 ∷ []) ∷ request 2 2 0x11 0x4 (0 ∷ 0 ∷ 0x40000000 ∷ [])
    ∷ request 1 2 0x10 0x9 (2 ∷ 0 ∷ 1 ∷ [])
    ∷ request 2 3 0x14 0x5 (0 ∷ 0 ∷ 300 ∷ 0 ∷ []) ∷ request 1 3 0x10 0xb (2 ∷ 1 ∷ [])
    ∷ request 2 4 0x14 0x5 (0 ∷ 0 ∷ 300 ∷ 0 ∷ [])
    ∷ request 1 4 0x10 0xa (2 ∷ 0 ∷ 0x13 ∷ 0 ∷ []) ∷ request 1 5 0x10 0xa (2 ∷ 0 ∷ 0x111 ∷ 0 ∷ [])
    ∷ request 2 5 0x10 0xa (2 ∷ 0 ∷ 0x11 ∷ 0 ∷ [])
    ∷ request 1 6 0x10 0x2 (0xa ∷ []) ∷ []

protocol_permissions-replies : replies board_b protocol_permissions
    ≡ (0x0000400a ∷ 0 ∷ []) ∷ (0x00005005 ∷ 0xfffffffd ∷ []) ∷ (0x00044404 ∷ 0 ∷ [])
    ∷ (0x00044009 ∷ 0 ∷ []) ∷ (0x00084404 ∷ 0xfffffffd ∷ [])
    ∷ (0x00084009 ∷ 0 ∷ []) ∷ (0x000c5005 ∷ 0xfffffffd ∷ []) ∷ (0x000c400b ∷ 0 ∷ [])
    ∷ (0x00105005 ∷ 0 ∷ [])
    ∷ (0x0010400a ∷ 0xfffffffc ∷ []) ∷ (0x0014400a ∷ 0xfffffffe ∷ [])
    ∷ (0x0014400a ∷ 0xfffffffd ∷ []) ∷ (0x00184002 ∷ 0 ∷ 0 ∷ []) ∷ []
unfolding protocol_permissions rows_of deeds reply_words base_reply may_set power_reply clock_reply fold_with_prefix
protocol_permissions-replies = refl

protocol_permissions-told_ap : words_told board_b 1 protocol_permissions ≡ []
unfolding protocol_permissions rows_of deeds reply_words base_reply may_set power_reply clock_reply fold_with_prefix
protocol_permissions-told_ap = refl

protocol_permissions-told_modem : words_told board_b 2 protocol_permissions ≡ []
unfolding protocol_permissions rows_of deeds reply_words base_reply may_set power_reply clock_reply fold_with_prefix
protocol_permissions-told_modem = refl
