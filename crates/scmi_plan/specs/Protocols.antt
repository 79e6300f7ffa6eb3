-- The protocols that a board may have.
use Rattle.std.specs.Prelude.{ℕ, ◌≡◌, ◌≤◌, Bool, true, nat_lt, List, length}
use Rattle.std.specs.List.{list_all}
use Rattle.scmi_plan.specs.PlanError.{rises}
use Rattle.scmi_plan.specs.declared.limits.TheConstants.{PROTOCOLS}

-- each id is above that of the base protocol, which every board has
abbrev pub are_above_base : List ℕ → Bool
are_above_base ids = list_all (λ id. nat_lt 0x10 id) ids

-- at most 16 ids that rise, above that of the base protocol (own)
abbrev pub AreProtocols : List ℕ → Type 0
AreProtocols ids = (length ids ≤ PROTOCOLS) × (rises ids ≡ true) × (are_above_base ids ≡ true)
