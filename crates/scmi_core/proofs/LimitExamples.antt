-- Full outboxes and a full table of pending sets, computed.
use Rattle.std.proofs.Common.{◌≡◌, List, [], ◌∷◌, refl}
use Rattle.scmi_base.specs.BaseReply.{base_reply}
use Rattle.scmi_power.specs.PowerReply.{may_set, power_reply}
use Rattle.scmi_clock.specs.ClockReply.{clock_reply}
use Rattle.scmi_core.specs.declared.event.Event.{Event}
use Rattle.scmi_core.specs.declared.event.Event.TheVariants.{Advance, Sent}
use Rattle.scmi_core.specs.Deed.{fold_with_prefix}
use Rattle.scmi_core.specs.Reply.{reply_words}
use Rattle.scmi_core.specs.History.{deeds}
use Rattle.scmi_core.proofs.ExampleWords.{request, replies, words_told}
use Rattle.scmi_core.specs.BoardB.{board_b}
use Rattle.scmi_core.specs.BoardC.{board_c}

-- a full outbox drops a notification and keeps the delayed response
flood : List Event
flood =
    request 1 0 0x11 0x6 (0 ∷ 1 ∷ []) ∷ request 2 0 0x11 0x4 (0 ∷ 0 ∷ 0 ∷ [])
    ∷ request 2 1 0x11 0x4 (0 ∷ 0 ∷ 0x40000000 ∷ [])
    ∷ request 2 2 0x11 0x4 (0 ∷ 0 ∷ 0 ∷ []) ∷ request 2 3 0x11 0x4 (0 ∷ 0 ∷ 0x40000000 ∷ [])
    ∷ request 2 4 0x11 0x4 (0 ∷ 0 ∷ 0 ∷ [])
    ∷ request 2 5 0x11 0x4 (0 ∷ 0 ∷ 0x40000000 ∷ []) ∷ request 2 6 0x11 0x4 (0 ∷ 0 ∷ 0 ∷ [])
    ∷ request 2 7 0x11 0x4 (0 ∷ 0 ∷ 0x40000000 ∷ []) ∷ request 2 8 0x11 0x4 (0 ∷ 0 ∷ 0 ∷ [])
    ∷ request 2 9 0x11 0x4 (0 ∷ 0 ∷ 0x40000000 ∷ []) ∷ request 2 10 0x11 0x4 (0 ∷ 0 ∷ 0 ∷ [])
    ∷ request 2 11 0x11 0x4 (0 ∷ 0 ∷ 0x40000000 ∷ []) ∷ request 2 12 0x11 0x4 (0 ∷ 0 ∷ 0 ∷ [])
    ∷ request 2 13 0x11 0x4 (0 ∷ 0 ∷ 0x40000000 ∷ []) ∷ request 2 14 0x11 0x4 (0 ∷ 0 ∷ 0 ∷ [])
    ∷ request 1 1 0x14 0x5 (1 ∷ 0 ∷ 200 ∷ 0 ∷ [])
    ∷ request 2 15 0x11 0x4 (0 ∷ 0 ∷ 0x40000000 ∷ [])
    ∷ request 1 2 0x14 0x5 (1 ∷ 1 ∷ 0x5dc ∷ 0 ∷ []) ∷ Advance ∷ Sent 1 ∷ Sent 1 ∷ Sent 1
    ∷ Sent 1 ∷ Sent 1 ∷ Sent 1 ∷ Sent 1 ∷ Sent 1 ∷ Sent 1 ∷ Sent 1 ∷ Sent 1 ∷ Sent 1 ∷ Sent 1
    ∷ Sent 1 ∷ Sent 1 ∷ Sent 1 ∷ []

flood-replies : replies board_b flood
    ≡ (0x00004406 ∷ 0 ∷ []) ∷ (0x00004404 ∷ 0 ∷ []) ∷ (0x00044404 ∷ 0 ∷ []) ∷ (0x00084404 ∷ 0 ∷ [])
    ∷ (0x000c4404 ∷ 0 ∷ [])
    ∷ (0x00104404 ∷ 0 ∷ []) ∷ (0x00144404 ∷ 0 ∷ []) ∷ (0x00184404 ∷ 0 ∷ []) ∷ (0x001c4404 ∷ 0 ∷ [])
    ∷ (0x00204404 ∷ 0 ∷ [])
    ∷ (0x00244404 ∷ 0 ∷ []) ∷ (0x00284404 ∷ 0 ∷ []) ∷ (0x002c4404 ∷ 0 ∷ []) ∷ (0x00304404 ∷ 0 ∷ [])
    ∷ (0x00344404 ∷ 0 ∷ [])
    ∷ (0x00384404 ∷ 0 ∷ []) ∷ (0x00045005 ∷ 0 ∷ []) ∷ (0x003c4404 ∷ 0 ∷ [])
    ∷ (0x00085005 ∷ 0xfffffffa ∷ []) ∷ [] ∷ [] ∷ [] ∷ [] ∷ [] ∷ []
    ∷ [] ∷ [] ∷ [] ∷ [] ∷ [] ∷ [] ∷ [] ∷ [] ∷ [] ∷ [] ∷ [] ∷ []
unfolding flood deeds reply_words base_reply may_set power_reply clock_reply fold_with_prefix
flood-replies = refl

flood-told_ap : words_told board_b 1 flood
    ≡ (0x00004700 ∷ 2 ∷ 0 ∷ 0 ∷ []) ∷ (0x00004700 ∷ 2 ∷ 0 ∷ 0x40000000 ∷ [])
    ∷ (0x00004700 ∷ 2 ∷ 0 ∷ 0 ∷ [])
    ∷ (0x00004700 ∷ 2 ∷ 0 ∷ 0x40000000 ∷ []) ∷ (0x00004700 ∷ 2 ∷ 0 ∷ 0 ∷ [])
    ∷ (0x00004700 ∷ 2 ∷ 0 ∷ 0x40000000 ∷ [])
    ∷ (0x00004700 ∷ 2 ∷ 0 ∷ 0 ∷ []) ∷ (0x00004700 ∷ 2 ∷ 0 ∷ 0x40000000 ∷ [])
    ∷ (0x00004700 ∷ 2 ∷ 0 ∷ 0 ∷ [])
    ∷ (0x00004700 ∷ 2 ∷ 0 ∷ 0x40000000 ∷ []) ∷ (0x00004700 ∷ 2 ∷ 0 ∷ 0 ∷ [])
    ∷ (0x00004700 ∷ 2 ∷ 0 ∷ 0x40000000 ∷ [])
    ∷ (0x00004700 ∷ 2 ∷ 0 ∷ 0 ∷ []) ∷ (0x00004700 ∷ 2 ∷ 0 ∷ 0x40000000 ∷ [])
    ∷ (0x00004700 ∷ 2 ∷ 0 ∷ 0 ∷ [])
    ∷ (0x00045205 ∷ 0 ∷ 0 ∷ 200 ∷ 0 ∷ []) ∷ []
unfolding flood deeds reply_words base_reply may_set power_reply clock_reply fold_with_prefix
flood-told_ap = refl

flood-told_modem : words_told board_b 2 flood ≡ []
unfolding flood deeds reply_words base_reply may_set power_reply clock_reply fold_with_prefix
flood-told_modem = refl

-- eight sets are pending and a ninth is refused
full_table : List Event
full_table =
    request 1 0 0x14 0x5 (1 ∷ 0 ∷ 2 ∷ 0 ∷ []) ∷ request 1 1 0x14 0x5 (1 ∷ 1 ∷ 2 ∷ 0 ∷ [])
    ∷ request 1 2 0x14 0x5 (1 ∷ 2 ∷ 2 ∷ 0 ∷ [])
    ∷ request 1 3 0x14 0x5 (1 ∷ 3 ∷ 2 ∷ 0 ∷ []) ∷ request 1 4 0x14 0x5 (1 ∷ 4 ∷ 2 ∷ 0 ∷ [])
    ∷ request 1 5 0x14 0x5 (1 ∷ 5 ∷ 2 ∷ 0 ∷ [])
    ∷ request 1 6 0x14 0x5 (1 ∷ 6 ∷ 2 ∷ 0 ∷ []) ∷ request 1 7 0x14 0x5 (1 ∷ 7 ∷ 2 ∷ 0 ∷ [])
    ∷ request 1 8 0x14 0x5 (1 ∷ 8 ∷ 2 ∷ 0 ∷ [])
    ∷ Advance ∷ Sent 1 ∷ Advance ∷ Sent 1 ∷ Advance ∷ Sent 1 ∷ Advance ∷ Sent 1 ∷ Advance ∷ Sent 1
    ∷ Advance ∷ Sent 1 ∷ Advance ∷ Sent 1
    ∷ Advance ∷ Sent 1 ∷ []

full_table-replies : replies board_c full_table
    ≡ (0x00005005 ∷ 0 ∷ []) ∷ (0x00045005 ∷ 0 ∷ []) ∷ (0x00085005 ∷ 0 ∷ []) ∷ (0x000c5005 ∷ 0 ∷ [])
    ∷ (0x00105005 ∷ 0 ∷ [])
    ∷ (0x00145005 ∷ 0 ∷ []) ∷ (0x00185005 ∷ 0 ∷ []) ∷ (0x001c5005 ∷ 0 ∷ [])
    ∷ (0x00205005 ∷ 0xfffffffa ∷ []) ∷ [] ∷ [] ∷ [] ∷ [] ∷ [] ∷ []
    ∷ [] ∷ [] ∷ [] ∷ [] ∷ [] ∷ [] ∷ [] ∷ [] ∷ [] ∷ [] ∷ []
unfolding full_table deeds reply_words base_reply may_set power_reply clock_reply fold_with_prefix
full_table-replies = refl

full_table-told_agent : words_told board_c 1 full_table
    ≡ (0x00005205 ∷ 0 ∷ 0 ∷ 2 ∷ 0 ∷ []) ∷ (0x00045205 ∷ 0 ∷ 1 ∷ 2 ∷ 0 ∷ [])
    ∷ (0x00085205 ∷ 0 ∷ 2 ∷ 2 ∷ 0 ∷ [])
    ∷ (0x000c5205 ∷ 0 ∷ 3 ∷ 2 ∷ 0 ∷ []) ∷ (0x00105205 ∷ 0 ∷ 4 ∷ 2 ∷ 0 ∷ [])
    ∷ (0x00145205 ∷ 0 ∷ 5 ∷ 2 ∷ 0 ∷ [])
    ∷ (0x00185205 ∷ 0 ∷ 6 ∷ 2 ∷ 0 ∷ []) ∷ (0x001c5205 ∷ 0 ∷ 7 ∷ 2 ∷ 0 ∷ []) ∷ []
unfolding full_table deeds reply_words base_reply may_set power_reply clock_reply fold_with_prefix
full_table-told_agent = refl
