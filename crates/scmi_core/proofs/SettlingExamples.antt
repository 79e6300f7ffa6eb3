-- A pending set that gives a free clock another rate than was asked for, computed.
use Rattle.std.proofs.Common.{◌≡◌, List, [], ◌∷◌, refl, arith}
use Rattle.scmi_base.specs.BaseReply.{base_reply}
use Rattle.scmi_power.specs.PowerReply.{may_set, power_reply}
use Rattle.scmi_clock.specs.ClockReply.{clock_reply}
use Rattle.scmi_plan.specs.Board.{Board}
use Rattle.scmi_plan.specs.declared.effect.Effect.TheVariants as effect
use Rattle.scmi_core.specs.declared.event.Event.{Event}
use Rattle.scmi_core.specs.declared.event.Event.TheVariants.{Advance, Settled}
use Rattle.scmi_core.specs.Deed.{fold_with_prefix}
use Rattle.scmi_core.specs.Effect.{effects}
use Rattle.scmi_core.specs.Legal.{CanFollow}
use Rattle.scmi_core.specs.Reply.{reply_words}
use Rattle.scmi_core.specs.History.{deeds, value_after}
use Rattle.scmi_core.specs.Value.{Rate}
use Rattle.scmi_core.proofs.ExampleWords.{request, replies, words_told}
use Rattle.scmi_core.specs.BoardC.{board_c}

-- the first clock is free
abbrev free_board : Board
free_board = record board_c { free = 1 }

-- the agent asks for 1000000 Hz later, and gets 999999: until then it reads the old rate
asked : List Event
asked = request 1 0 0x14 0x5 (1 ∷ 0 ∷ 1000000 ∷ 0 ∷ []) ∷ []

settling : List Event
settling =
    request 1 0 0x14 0x5 (1 ∷ 0 ∷ 1000000 ∷ 0 ∷ []) ∷ Settled 0 999999
    ∷ request 1 1 0x14 0x6 (0 ∷ []) ∷ Advance ∷ request 1 2 0x14 0x6 (0 ∷ []) ∷ []

settling-follows : CanFollow free_board asked (Settled 0 999999)
unfolding asked deeds reply_words base_reply may_set power_reply clock_reply fold_with_prefix
settling-follows = (omega arith, refl, refl)

settling-replies : replies free_board settling
    ≡ (0x00005005 ∷ 0 ∷ []) ∷ [] ∷ (0x00045006 ∷ 0 ∷ 1 ∷ 0 ∷ []) ∷ []
    ∷ (0x00085006 ∷ 0 ∷ 999999 ∷ 0 ∷ []) ∷ []
unfolding settling deeds reply_words base_reply may_set power_reply clock_reply fold_with_prefix
settling-replies = refl

settling-told : words_told free_board 1 settling ≡ (0x00005205 ∷ 0 ∷ 0 ∷ 999999 ∷ 0 ∷ []) ∷ []
unfolding settling deeds reply_words base_reply may_set power_reply clock_reply fold_with_prefix
settling-told = refl

settling-effects : effects free_board settling ≡ effect.Rate 0 999999 ∷ []
unfolding settling effects deeds reply_words base_reply may_set power_reply clock_reply fold_with_prefix
settling-effects = refl

settling-value : value_after free_board (Rate 0) settling ≡ 999999
unfolding settling deeds reply_words base_reply may_set power_reply clock_reply fold_with_prefix
settling-value = refl

-- a clock that is not free gives what was accepted, of its list: no other rate can follow
rounded : List Event
rounded = request 1 0 0x14 0x5 (1 ∷ 1 ∷ 2 ∷ 0 ∷ []) ∷ []

rounded-fixed : ¬ (CanFollow free_board rounded (Settled 1 999999))
rounded-fixed follows = let no = follows.1 in absurd (cc)

-- nor can any for a free clock without a pending set
idle-fixed : ¬ (CanFollow free_board [] (Settled 0 999999))
unfolding deeds fold_with_prefix
idle-fixed follows = let no = follows.2 in absurd (cc)
