-- Changes of hardware, as numbers for C.
use Rattle.std.specs.Prelude.{◌≡◌, ◌/◌, ◌%◌, ◌^◌}
use Rattle.scmi_plan.specs.declared.effect.Effect.{Effect}
use Rattle.scmi_plan.specs.declared.effect.Effect.TheVariants.{State, Rate, Enabled}
use Rattle.scmi_core.specs.Value.{bit_value}
use Rattle.scmi_c.specs.declared.effect.EffectNumbers.{EffectNumbers}

-- its kind, its domain or clock, and the new value, the lower word first
abbrev pub numbers_of : Effect → EffectNumbers
numbers_of (State domain state) = record { kind = 1; id = domain; low = state; high = 0 }
numbers_of (Rate clock rate) =
    record { kind = 2; id = clock; low = rate % 2 ^ 32; high = rate / 2 ^ 32 }
numbers_of (Enabled clock enabled) =
    record { kind = 3; id = clock; low = bit_value enabled; high = 0 }

-- these numbers give a clock a rate
abbrev pub IsRate : EffectNumbers → Type 0
IsRate change = change.kind ≡ 2
