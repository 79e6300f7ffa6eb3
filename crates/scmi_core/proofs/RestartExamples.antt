-- An agent that restarts without the platform, computed.
use Rattle.std.proofs.Common.{◌≡◌, List, [], ◌∷◌, refl}
use Rattle.scmi_base.specs.BaseReply.{base_reply}
use Rattle.scmi_power.specs.PowerReply.{may_set, power_reply}
use Rattle.scmi_clock.specs.ClockReply.{clock_reply}
use Rattle.scmi_core.specs.declared.event.Event.{Event}
use Rattle.scmi_core.specs.declared.event.Event.TheVariants.{Advance, Restarted, Sent}
use Rattle.scmi_core.specs.Deed.{fold_with_prefix}
use Rattle.scmi_core.specs.Reply.{reply_words}
use Rattle.scmi_core.specs.History.{deeds, outbox}
use Rattle.scmi_core.proofs.ExampleWords.{request, replies, words_told}
use Rattle.scmi_core.specs.BoardB.{board_b}

-- both agents ask to be notified of a domain, a notification waits for each, and a set of the first
-- is pending, which then restarts: the set completes, and only the other agent is notified of it
restart : List Event
restart =
    request 1 0 0x11 0x6 (0 ∷ 1 ∷ []) ∷ request 2 0 0x11 0x6 (0 ∷ 1 ∷ [])
    ∷ request 2 1 0x11 0x4 (0 ∷ 0 ∷ 0 ∷ [])
    ∷ request 1 1 0x11 0x4 (1 ∷ 0 ∷ 0x40000000 ∷ []) ∷ Restarted 1 ∷ Advance
    ∷ request 1 2 0x11 0x5 (0 ∷ []) ∷ []

restart-replies : replies board_b restart
    ≡ (0x00004406 ∷ 0 ∷ []) ∷ (0x00004406 ∷ 0 ∷ []) ∷ (0x00044404 ∷ 0 ∷ [])
    ∷ (0x00044404 ∷ 0 ∷ []) ∷ [] ∷ []
    ∷ (0x00084405 ∷ 0 ∷ 0x40000000 ∷ []) ∷ []
unfolding restart deeds reply_words base_reply may_set power_reply clock_reply fold_with_prefix
restart-replies = refl

restart-told_ap : words_told board_b 1 restart ≡ []
unfolding restart deeds reply_words base_reply may_set power_reply clock_reply fold_with_prefix
restart-told_ap = refl

restart-outbox_ap : outbox board_b 1 restart ≡ []
unfolding restart outbox deeds reply_words base_reply may_set power_reply clock_reply fold_with_prefix
restart-outbox_ap = refl

restart-told_modem : words_told board_b 2 restart
    ≡ (0x00004700 ∷ 2 ∷ 0 ∷ 0 ∷ []) ∷ (0x00004700 ∷ 1 ∷ 0 ∷ 0x40000000 ∷ []) ∷ []
unfolding restart deeds reply_words base_reply may_set power_reply clock_reply fold_with_prefix
restart-told_modem = refl

-- what was posted before stays, and a request after the restart counts
restart_after_a_message : List Event
restart_after_a_message =
    request 1 0 0x11 0x6 (0 ∷ 1 ∷ []) ∷ request 2 0 0x11 0x4 (0 ∷ 0 ∷ 0 ∷ [])
    ∷ request 2 1 0x11 0x4 (0 ∷ 0 ∷ 0x40000000 ∷ [])
    ∷ Sent 1 ∷ Restarted 1 ∷ request 1 0 0x11 0x6 (0 ∷ 1 ∷ [])
    ∷ request 2 2 0x11 0x4 (0 ∷ 0 ∷ 0 ∷ []) ∷ []

restart_after_a_message-told_ap : words_told board_b 1 restart_after_a_message
    ≡ (0x00004700 ∷ 2 ∷ 0 ∷ 0 ∷ []) ∷ (0x00004700 ∷ 2 ∷ 0 ∷ 0 ∷ []) ∷ []
unfolding restart_after_a_message deeds reply_words base_reply may_set power_reply clock_reply fold_with_prefix
restart_after_a_message-told_ap = refl
