-- Reads, and commands that are none, computed.
use Rattle.std.proofs.Common.{◌≡◌, ℕ, suc, true, false, List, [], ◌∷◌, ◌++◌, length, refl, sym, ap}
use Rattle.scmi_base.specs.BaseReply.{base_reply}
use Rattle.scmi_plan.specs.declared.scope.Scope.TheVariants as scope
use Rattle.scmi_power.specs.PowerReply.{may_set, power_reply}
use Rattle.scmi_clock.specs.ClockReply.{clock_reply}
use Rattle.scmi_core.specs.declared.event.Event.{Event}
use Rattle.scmi_core.specs.BoardB.{board_b}
use Rattle.scmi_core.specs.Deed.{fold_with_prefix}
use Rattle.scmi_core.specs.History.{deeds}
use Rattle.scmi_core.specs.Laws.{AreAlikeBut}
use Rattle.scmi_core.specs.Reply.{reply_words}
use Rattle.scmi_core.proofs.ExampleWords.{request}
use Rattle.scmi_laws.specs.Reads.{without_quiet}

-- agent 2 sets a state and reads it, sets an unknown domain, sets a rate, and reads the rates;
-- agent 1 reads too
mixed : List Event
mixed =
    request 2 0 0x11 0x4 (0 ∷ 1 ∷ 0x40000000 ∷ [])
    ∷ request 2 1 0x11 0x5 (1 ∷ [])
    ∷ request 2 2 0x11 0x4 (0 ∷ 9 ∷ 0 ∷ [])
    ∷ request 1 0 0x11 0x5 (1 ∷ [])
    ∷ request 2 3 0x14 0x5 (0 ∷ 0 ∷ 200 ∷ 0 ∷ [])
    ∷ request 2 4 0x14 0x4 (0 ∷ 0 ∷ [])
    ∷ []

-- the two sets are left of what agent 2 asked
mixed-without : without_quiet board_b 2 mixed
    ≡ request 2 0 0x11 0x4 (0 ∷ 1 ∷ 0x40000000 ∷ [])
    ∷ request 1 0 0x11 0x5 (1 ∷ [])
    ∷ request 2 3 0x14 0x5 (0 ∷ 0 ∷ 200 ∷ 0 ∷ [])
    ∷ []
unfolding mixed without_quiet deeds reply_words base_reply may_set power_reply clock_reply fold_with_prefix
mixed-without = refl

some_more : (n : ℕ) → suc n ≡ 0 → ⊥
some_more n is = absurd (cc)

apart : true ≡ false → ⊥
apart is = absurd (cc)

-- each command that is no read moves somebody, here those of agent 1 on board B
abbrev Moves : List Event → Event → Type 0
Moves h event = ¬ (AreAlikeBut board_b 1 (h ++ event ∷ []) h)

state_set-moves : Moves [] (request 1 0 0x11 0x4 (0 ∷ 1 ∷ 0x40000000 ∷ []))
unfolding deeds reply_words base_reply may_set power_reply clock_reply fold_with_prefix
state_set-moves alike = some_more 0 (ap length alike.changed)

state_set_later-moves : Moves [] (request 1 0 0x11 0x4 (1 ∷ 0 ∷ 0 ∷ []))
unfolding deeds reply_words base_reply may_set power_reply clock_reply fold_with_prefix
state_set_later-moves alike = some_more 0 (ap (λ s. length s.pending) (alike.situations 2))

notify-moves : Moves [] (request 1 0 0x11 0x6 (0 ∷ 1 ∷ []))
unfolding deeds reply_words base_reply may_set power_reply clock_reply fold_with_prefix
notify-moves alike = apart (ap (λ s. s.subscribed 0) (alike.situations 1))

rate_set-moves : Moves [] (request 1 0 0x14 0x5 (0 ∷ 0 ∷ 200 ∷ 0 ∷ []))
unfolding deeds reply_words base_reply may_set power_reply clock_reply fold_with_prefix
rate_set-moves alike = some_more 0 (ap length alike.changed)

config-moves : Moves [] (request 1 0 0x14 0x7 (0 ∷ 0 ∷ []))
unfolding deeds reply_words base_reply may_set power_reply clock_reply fold_with_prefix
config-moves alike = some_more 0 (ap length alike.changed)

permit-moves : Moves [] (request 1 0 0x10 0x9 (2 ∷ 0 ∷ 0 ∷ []))
unfolding deeds reply_words base_reply may_set power_reply clock_reply fold_with_prefix
permit-moves alike = apart (sym (ap (λ s. s.allowed 0 scope.Device) (alike.situations 2)))

permit_protocol-moves : Moves [] (request 1 0 0x10 0xa (2 ∷ 0 ∷ 0x11 ∷ 0 ∷ []))
unfolding deeds reply_words base_reply may_set power_reply clock_reply fold_with_prefix
permit_protocol-moves alike = apart (sym (ap (λ s. s.allowed 0 scope.Power) (alike.situations 2)))

reset-moves : Moves (request 1 0 0x10 0x9 (2 ∷ 0 ∷ 0 ∷ []) ∷ []) (request 1 1 0x10 0xb (2 ∷ 1 ∷ []))
unfolding deeds reply_words base_reply may_set power_reply clock_reply fold_with_prefix
reset-moves alike = apart (ap (λ s. s.allowed 0 scope.Device) (alike.situations 2))
