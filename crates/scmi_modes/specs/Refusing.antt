-- Hardware that refuses each change with one fault.
use Rattle.std.specs.Prelude.{◌≡◌, List}
use Rattle.std.specs.List.{All}
use Rattle.scmi_core.specs.Asked.{Asked, Refused}
use Rattle.scmi_plan.specs.declared.effect.Effect.{Effect}
use Rattle.scmi_codec.specs.declared.fault.Fault.{Fault}

-- a change was asked for, and refused with this fault
abbrev pub IsRefusedWith : Fault → Asked → Type 0
IsRefusedWith fault ask = (effect : Effect) × (ask ≡ Refused effect fault)

-- all that was asked for was refused with this fault
abbrev pub IsAllRefusedWith : Fault → List Asked → Type 0
IsAllRefusedWith fault asks = All (IsRefusedWith fault) asks
