-- Who is allowed on which device, and for which protocol (own).
use Rattle.std.specs.Prelude.{ℕ, Bool, List}
use Rattle.std.specs.List.{filter_map}
use Rattle.scmi_plan.specs.Board.{Board}
use Rattle.scmi_base.specs.Permission.{is_allowed}
use Rattle.scmi_plan.specs.declared.scope.Scope.{Scope}
use Rattle.scmi_core.specs.Commands.{permission_in}
use Rattle.scmi_core.specs.Deed.{Deed, latest, successes}

-- the board says where agents are allowed from the start, until a permission or a reset says
-- otherwise; the latest counts (own)
abbrev pub has_permission : Board → ℕ → ℕ → Scope → List Deed → Bool
has_permission board a d scope h =
    latest (is_allowed board.denied a d scope)
    (filter_map (λ s. permission_in board a d scope s.command) (successes board h))
