-- What a board keeps, denies and shares out, computed.
use Rattle.std.proofs.Common.{◌≡◌, List, [], ◌∷◌, refl}
use Rattle.scmi_base.specs.BaseReply.{base_reply}
use Rattle.scmi_power.specs.PowerReply.{may_set, power_reply}
use Rattle.scmi_clock.specs.ClockReply.{clock_reply}
use Rattle.scmi_core.specs.declared.event.Event.{Event}
use Rattle.scmi_core.specs.declared.event.Event.TheVariants.{Advance}
use Rattle.scmi_core.specs.Deed.{fold_with_prefix}
use Rattle.scmi_core.specs.Reply.{reply_words}
use Rattle.scmi_core.specs.History.{deeds}
use Rattle.scmi_core.proofs.ExampleWords.{request, replies}
use Rattle.scmi_core.specs.BoardE.{board_e}

-- a kept domain and a kept clock may be switched on and not off; another clock may be
kept : List Event
kept =
    request 1 0 0x11 0x4 (0 ∷ 1 ∷ 0x40000000 ∷ []) ∷ request 1 1 0x11 0x4 (0 ∷ 1 ∷ 0 ∷ [])
    ∷ request 1 2 0x14 0x7 (0 ∷ 0 ∷ []) ∷ request 1 3 0x14 0x7 (0 ∷ 1 ∷ [])
    ∷ request 1 4 0x14 0x7 (2 ∷ 0 ∷ []) ∷ []

kept-replies : replies board_e kept
    ≡ (0x00004404 ∷ 0xfffffffd ∷ []) ∷ (0x00044404 ∷ 0 ∷ []) ∷ (0x00085007 ∷ 0xfffffffd ∷ [])
    ∷ (0x000c5007 ∷ 0 ∷ []) ∷ (0x00105007 ∷ 0 ∷ []) ∷ []
unfolding kept deeds reply_words base_reply may_set power_reply clock_reply fold_with_prefix
kept-replies = refl

-- an agent is denied what its board denies it, for that protocol alone; the trusted agent allows
-- it, and a reset of its permissions denies it again
denied : List Event
denied =
    request 2 0 0x11 0x4 (0 ∷ 0 ∷ 0 ∷ []) ∷ request 2 1 0x14 0x5 (0 ∷ 0 ∷ 200 ∷ 0 ∷ [])
    ∷ request 1 0 0x10 0xa (2 ∷ 0 ∷ 0x11 ∷ 1 ∷ []) ∷ request 2 2 0x11 0x4 (0 ∷ 0 ∷ 0 ∷ [])
    ∷ request 1 1 0x10 0xb (2 ∷ 1 ∷ []) ∷ request 2 3 0x11 0x4 (0 ∷ 0 ∷ 0 ∷ []) ∷ []

denied-replies : replies board_e denied
    ≡ (0x00004404 ∷ 0xfffffffd ∷ []) ∷ (0x00045005 ∷ 0 ∷ []) ∷ (0x0000400a ∷ 0 ∷ [])
    ∷ (0x00084404 ∷ 0 ∷ []) ∷ (0x0004400b ∷ 0 ∷ []) ∷ (0x000c4404 ∷ 0xfffffffd ∷ []) ∷ []
unfolding denied deeds reply_words base_reply may_set power_reply clock_reply fold_with_prefix
denied-replies = refl

-- an agent with a share of one learns that, and has room for one set: not for another beside it,
-- which is another agent's to make
shared : List Event
shared =
    request 2 0 0x14 0x1 [] ∷ request 2 1 0x14 0x5 (1 ∷ 0 ∷ 200 ∷ 0 ∷ [])
    ∷ request 2 2 0x14 0x5 (1 ∷ 2 ∷ 5 ∷ 0 ∷ []) ∷ request 1 0 0x14 0x5 (1 ∷ 2 ∷ 5 ∷ 0 ∷ [])
    ∷ Advance ∷ request 2 3 0x14 0x5 (1 ∷ 1 ∷ 1000 ∷ 0 ∷ []) ∷ []

shared-replies : replies board_e shared
    ≡ (0x00005001 ∷ 0 ∷ 0x10003 ∷ []) ∷ (0x00045005 ∷ 0 ∷ []) ∷ (0x00085005 ∷ 0xfffffffa ∷ [])
    ∷ (0x00005005 ∷ 0 ∷ []) ∷ [] ∷ (0x000c5005 ∷ 0 ∷ []) ∷ []
unfolding shared deeds reply_words base_reply may_set power_reply clock_reply fold_with_prefix
shared-replies = refl
