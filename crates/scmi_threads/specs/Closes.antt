-- What an agent's answer of its first close says about its end.
use Rattle.std.specs.Prelude.{◌≡◌, true, false, Option, Some, None}
use Rattle.std.proofs.Props.{props}
use Rattle.scmi_link.specs.View.{CallerView, IsOutstanding}
use Rattle.scmi_link.specs.declared.closing.Closing.{Closing}
use Rattle.scmi_link.specs.declared.closing.Closing.TheVariants.{Idle, Withdrawn}

-- the endpoint has closed if there is an answer; apart from any notice of a close, it has left a
-- post behind if and only if the answer is `Withdrawn`
abbrev pub IsClosedAs : Option Closing → CallerView → Type 0
IsClosedAs None caller = (caller.closed ≡ false) × (caller.told ≡ false → caller.left ≡ false)
IsClosedAs (Some Idle) caller = (caller.closed ≡ true) × (¬ (IsOutstanding caller))
    × (caller.told ≡ false → caller.left ≡ false)
IsClosedAs (Some Withdrawn) caller = (caller.closed ≡ true) × (caller.left ≡ true)

-- there is at most one proof of it
pub IsClosedAs-prop : (closing : Option Closing) (caller : CallerView)
    → IsProp (IsClosedAs closing caller)
IsClosedAs-prop None caller = Prim.hlevel props
IsClosedAs-prop (Some Idle) caller = Prim.hlevel props
IsClosedAs-prop (Some Withdrawn) caller = Prim.hlevel props
