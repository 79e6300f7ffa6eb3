-- What is said of the hardware.
use Rattle.std.specs.Prelude.{Option, Some, option_map, slice_get}
use Rattle.scmi_core.specs.Asked.{Asked, Made, Refused}
use Rattle.scmi_core.specs.Commands.{setting_effect}
use Rattle.scmi_core.specs.Standing.{Standing}
use Rattle.scmi_plan.specs.declared.effect.Effect.{Effect}
use Rattle.scmi_core.specs.declared.said.Saying.{Saying}
use Rattle.scmi_core.specs.declared.said.Saying.TheVariants as saying

-- what the first of a platform's pending sets is to change when it completes, if a set is pending
abbrev pub next_effect : Standing → Option Effect
next_effect p = option_map (λ set. setting_effect set.setting) (slice_get p.tables.pending 0)

-- that it made a change, or refused it with a fault: one that is named, or that of the first
-- pending set
abbrev pub ask_of : Saying → Option Asked
ask_of (saying.Made effect) = Some (Made effect)
ask_of (saying.Refused effect fault) = Some (Refused effect fault)
ask_of (saying.Completed platform) = option_map Made (next_effect platform.now)
ask_of (saying.Failed platform fault) =
    option_map (λ effect. Refused effect fault) (next_effect platform.now)
