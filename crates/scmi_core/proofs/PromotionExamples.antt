-- Pending sets that end in another order than that of acceptance, computed.
use Rattle.std.proofs.Common.{◌≡◌, List, [], ◌∷◌, refl}
use Rattle.scmi_base.specs.BaseReply.{base_reply}
use Rattle.scmi_power.specs.PowerReply.{may_set, power_reply}
use Rattle.scmi_clock.specs.ClockReply.{clock_reply}
use Rattle.scmi_core.specs.declared.event.Event.{Event}
use Rattle.scmi_core.specs.declared.event.Event.TheVariants.{Advance, Promoted}
use Rattle.scmi_core.specs.Deed.{fold_with_prefix}
use Rattle.scmi_core.specs.Reply.{reply_words}
use Rattle.scmi_core.specs.History.{deeds}
use Rattle.scmi_core.proofs.ExampleWords.{request, replies, words_told}
use Rattle.scmi_core.specs.BoardB.{board_b}

-- two sets are accepted for later of the first agent, of a domain and of a clock, and one of
-- another domain of the second between them: the hardware finishes the last first, and then the
-- others in order
promotion : List Event
promotion =
    request 1 0 0x11 0x4 (1 ∷ 0 ∷ 0 ∷ []) ∷ request 2 0 0x11 0x4 (1 ∷ 2 ∷ 0 ∷ [])
    ∷ request 1 1 0x14 0x5 (1 ∷ 0 ∷ 200 ∷ 0 ∷ []) ∷ Promoted 2
    ∷ Advance ∷ request 2 1 0x14 0x6 (0 ∷ []) ∷ Advance ∷ request 2 2 0x11 0x5 (0 ∷ [])
    ∷ Advance ∷ request 2 3 0x11 0x5 (2 ∷ []) ∷ []

promotion-replies : replies board_b promotion
    ≡ (0x00004404 ∷ 0 ∷ []) ∷ (0x00004404 ∷ 0 ∷ []) ∷ (0x00045005 ∷ 0 ∷ []) ∷ []
    ∷ [] ∷ (0x00045006 ∷ 0 ∷ 200 ∷ 0 ∷ []) ∷ [] ∷ (0x00084405 ∷ 0 ∷ 0 ∷ []) ∷ []
    ∷ (0x000c4405 ∷ 0 ∷ 0 ∷ []) ∷ []
unfolding promotion deeds reply_words base_reply may_set power_reply clock_reply fold_with_prefix
promotion-replies = refl

promotion-told_ap : words_told board_b 1 promotion
    ≡ (0x00045205 ∷ 0 ∷ 0 ∷ 200 ∷ 0 ∷ []) ∷ (0x00004604 ∷ 0 ∷ 0 ∷ 0 ∷ []) ∷ []
unfolding promotion deeds reply_words base_reply may_set power_reply clock_reply fold_with_prefix
promotion-told_ap = refl

promotion-told_modem : words_told board_b 2 promotion ≡ (0x00004604 ∷ 0 ∷ 2 ∷ 0 ∷ []) ∷ []
unfolding promotion deeds reply_words base_reply may_set power_reply clock_reply fold_with_prefix
promotion-told_modem = refl
