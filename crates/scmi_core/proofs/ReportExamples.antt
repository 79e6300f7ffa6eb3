-- Changes that the hardware made by itself, computed.
use Rattle.std.proofs.Common.{◌≡◌, false, List, [], ◌∷◌, refl}
use Rattle.scmi_base.specs.BaseReply.{base_reply}
use Rattle.scmi_power.specs.PowerReply.{may_set, power_reply}
use Rattle.scmi_clock.specs.ClockReply.{clock_reply}
use Rattle.scmi_plan.specs.declared.effect.Effect.TheVariants.{State, Rate, Enabled}
use Rattle.scmi_core.specs.declared.event.Event.{Event}
use Rattle.scmi_core.specs.declared.event.Event.TheVariants.{Advance, Reported}
use Rattle.scmi_core.specs.Asked.{Made}
use Rattle.scmi_core.specs.Deed.{fold_with_prefix}
use Rattle.scmi_core.specs.Driven.{asks}
use Rattle.scmi_core.specs.Effect.{commanded_effects, effects}
use Rattle.scmi_core.specs.Reply.{reply_words}
use Rattle.scmi_core.specs.History.{deeds}
use Rattle.scmi_core.proofs.ExampleWords.{request, replies, words_told}
use Rattle.scmi_core.specs.BoardB.{board_b}

-- a domain switches itself off: its subscriber is notified with causer 0, and reads give OFF; the
-- same state again is no news
reported_off : List Event
reported_off =
    request 1 0 0x11 0x6 (0 ∷ 1 ∷ []) ∷ request 2 0 0x11 0x4 (0 ∷ 0 ∷ 0 ∷ [])
    ∷ Reported (State 0 0x40000000) ∷ request 2 1 0x11 0x5 (0 ∷ [])
    ∷ Reported (State 0 0x40000000) ∷ []

reported_off-replies : replies board_b reported_off ≡ (0x00004406 ∷ 0 ∷ []) ∷ (0x00004404 ∷ 0 ∷ [])
    ∷ [] ∷ (0x00044405 ∷ 0 ∷ 0x40000000 ∷ []) ∷ [] ∷ []
unfolding reported_off deeds reply_words base_reply may_set power_reply clock_reply fold_with_prefix
reported_off-replies = refl

reported_off-told_ap : words_told board_b 1 reported_off
    ≡ (0x00004700 ∷ 2 ∷ 0 ∷ 0 ∷ []) ∷ (0x00004700 ∷ 0 ∷ 0 ∷ 0x40000000 ∷ []) ∷ []
unfolding reported_off deeds reply_words base_reply may_set power_reply clock_reply fold_with_prefix
reported_off-told_ap = refl

reported_off-told_modem : words_told board_b 2 reported_off ≡ []
unfolding reported_off deeds reply_words base_reply may_set power_reply clock_reply fold_with_prefix
reported_off-told_modem = refl

reported_off-effects : effects board_b reported_off
    ≡ State 0 0 ∷ State 0 0x40000000 ∷ State 0 0x40000000 ∷ []
unfolding reported_off effects deeds reply_words base_reply may_set power_reply clock_reply fold_with_prefix
reported_off-effects = refl

reported_off-commanded : commanded_effects board_b reported_off ≡ State 0 0 ∷ []
unfolding reported_off commanded_effects deeds reply_words base_reply may_set power_reply clock_reply fold_with_prefix
reported_off-commanded = refl

reported_off-asks : asks board_b reported_off ≡ Made (State 0 0) ∷ []
unfolding reported_off asks deeds reply_words base_reply may_set power_reply clock_reply fold_with_prefix
reported_off-asks = refl

-- a clock has a rate that is not of its list, one of more than 32 bits, and stops by itself; nobody
-- is notified
reported_rates : List Event
reported_rates =
    request 1 0 0x11 0x6 (0 ∷ 1 ∷ []) ∷ Reported (Rate 0 250) ∷ request 1 1 0x14 0x6 (0 ∷ [])
    ∷ Reported (Rate 0 0x100000005)
    ∷ request 1 2 0x14 0x6 (0 ∷ []) ∷ Reported (Enabled 0 false) ∷ request 1 3 0x14 0x3 (0 ∷ [])
    ∷ request 1 4 0x14 0x6 (1 ∷ []) ∷ []

reported_rates-replies : replies board_b reported_rates
    ≡ (0x00004406 ∷ 0 ∷ []) ∷ [] ∷ (0x00045006 ∷ 0 ∷ 250 ∷ 0 ∷ []) ∷ []
    ∷ (0x00085006 ∷ 0 ∷ 5 ∷ 1 ∷ []) ∷ []
    ∷ (0x000c5003 ∷ 0 ∷ 0 ∷ 0x65726f63 ∷ 0 ∷ 0 ∷ 0 ∷ []) ∷ (0x00105006 ∷ 0 ∷ 1000 ∷ 0 ∷ []) ∷ []
unfolding reported_rates deeds reply_words base_reply may_set power_reply clock_reply fold_with_prefix
reported_rates-replies = refl

reported_rates-told_ap : words_told board_b 1 reported_rates ≡ []
unfolding reported_rates deeds reply_words base_reply may_set power_reply clock_reply fold_with_prefix
reported_rates-told_ap = refl

-- a set stays pending over reports of its domain, which stays busy, and then completes
reported_while_pending : List Event
reported_while_pending =
    request 1 0 0x11 0x6 (0 ∷ 1 ∷ []) ∷ request 1 1 0x11 0x4 (1 ∷ 0 ∷ 0 ∷ []) ∷ Reported (State 0 0)
    ∷ request 1 2 0x11 0x4 (0 ∷ 0 ∷ 0x40000000 ∷ [])
    ∷ Reported (State 0 0x40000000) ∷ Advance ∷ request 1 3 0x11 0x5 (0 ∷ []) ∷ []

reported_while_pending-replies : replies board_b reported_while_pending
    ≡ (0x00004406 ∷ 0 ∷ []) ∷ (0x00044404 ∷ 0 ∷ []) ∷ [] ∷ (0x00084404 ∷ 0xfffffffa ∷ []) ∷ [] ∷ []
    ∷ (0x000c4405 ∷ 0 ∷ 0 ∷ []) ∷ []
unfolding reported_while_pending deeds reply_words base_reply may_set power_reply clock_reply fold_with_prefix
reported_while_pending-replies = refl

reported_while_pending-told_ap : words_told board_b 1 reported_while_pending
    ≡ (0x00004700 ∷ 0 ∷ 0 ∷ 0 ∷ []) ∷ (0x00004700 ∷ 0 ∷ 0 ∷ 0x40000000 ∷ [])
    ∷ (0x00044604 ∷ 0 ∷ 0 ∷ 0 ∷ []) ∷ (0x00004700 ∷ 1 ∷ 0 ∷ 0 ∷ []) ∷ []
unfolding reported_while_pending deeds reply_words base_reply may_set power_reply clock_reply fold_with_prefix
reported_while_pending-told_ap = refl

reported_while_pending-asks : asks board_b reported_while_pending ≡ Made (State 0 0) ∷ []
unfolding reported_while_pending asks deeds reply_words base_reply may_set power_reply clock_reply fold_with_prefix
reported_while_pending-asks = refl
