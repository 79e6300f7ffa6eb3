-- Changes of hardware, made and refused, computed.
use Rattle.std.proofs.Common.{◌≡◌, true, List, [], ◌∷◌, refl}
use Rattle.scmi_base.specs.BaseReply.{base_reply}
use Rattle.scmi_power.specs.PowerReply.{may_set, power_reply}
use Rattle.scmi_clock.specs.ClockReply.{clock_reply}
use Rattle.scmi_plan.specs.declared.effect.Effect.TheVariants.{State, Rate, Enabled}
use Rattle.scmi_core.specs.declared.event.Event.{Event}
use Rattle.scmi_core.specs.declared.event.Event.TheVariants.{Advance, AdvanceFailed}
use Rattle.scmi_codec.specs.declared.fault.Fault.TheVariants as fault
use Rattle.scmi_core.specs.Deed.{fold_with_prefix}
use Rattle.scmi_core.specs.Effect.{effects}
use Rattle.scmi_core.specs.Reply.{reply_words}
use Rattle.scmi_core.specs.History.{deeds}
use Rattle.scmi_core.proofs.ExampleWords.{request, request_failed, replies, words_told}
use Rattle.scmi_core.specs.BoardB.{board_b}

-- a set fails as HARDWARE_ERROR and the completion of a set as BUSY, and each is made when it is
-- asked for again
refused_changes : List Event
refused_changes =
    request 1 0 0x11 0x6 (0 ∷ 1 ∷ []) ∷ request_failed 1 1 0x11 0x4
    (0 ∷ 0 ∷ 0 ∷ []) fault.HardwareError ∷ request 1 2 0x11 0x5 (0 ∷ [])
    ∷ request 1 3 0x11 0x4 (0 ∷ 1 ∷ 0x40000000 ∷ []) ∷ request 1 4 0x11 0x4 (1 ∷ 0 ∷ 0 ∷ [])
    ∷ AdvanceFailed fault.Busy
    ∷ request 1 5 0x11 0x5 (0 ∷ []) ∷ request 1 6 0x11 0x4 (1 ∷ 0 ∷ 0 ∷ []) ∷ Advance
    ∷ request 1 7 0x14 0x5 (0 ∷ 0 ∷ 200 ∷ 0 ∷ [])
    ∷ request 1 8 0x14 0x7 (1 ∷ 1 ∷ []) ∷ []

refused_changes-replies : replies board_b refused_changes
    ≡ (0x00004406 ∷ 0 ∷ []) ∷ (0x00044404 ∷ 0xfffffff7 ∷ []) ∷ (0x00084405 ∷ 0 ∷ 0x40000000 ∷ [])
    ∷ (0x000c4404 ∷ 0 ∷ [])
    ∷ (0x00104404 ∷ 0 ∷ []) ∷ [] ∷ (0x00144405 ∷ 0 ∷ 0x40000000 ∷ []) ∷ (0x00184404 ∷ 0 ∷ []) ∷ []
    ∷ (0x001c5005 ∷ 0 ∷ [])
    ∷ (0x00205007 ∷ 0 ∷ []) ∷ []
unfolding refused_changes deeds reply_words base_reply may_set power_reply clock_reply fold_with_prefix
refused_changes-replies = refl

refused_changes-told_ap : words_told board_b 1 refused_changes
    ≡ (0x00104604 ∷ 0xfffffffa ∷ []) ∷ (0x00184604 ∷ 0 ∷ 0 ∷ 0 ∷ [])
    ∷ (0x00004700 ∷ 1 ∷ 0 ∷ 0 ∷ []) ∷ []
unfolding refused_changes deeds reply_words base_reply may_set power_reply clock_reply fold_with_prefix
refused_changes-told_ap = refl

refused_changes-effects : effects board_b refused_changes
    ≡ State 1 0x40000000 ∷ State 0 0 ∷ Rate 0 200 ∷ Enabled 1 true ∷ []
unfolding refused_changes effects deeds reply_words base_reply may_set power_reply clock_reply fold_with_prefix
refused_changes-effects = refl
