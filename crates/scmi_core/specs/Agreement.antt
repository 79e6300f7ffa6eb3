-- The tables of a controller are those of its history.
use Rattle.std.specs.Prelude.{◌≡◌, ℕ, ◌<◌, ◌≤◌, List, length}
use Rattle.std.specs.List.{All}
use Rattle.scmi_plan.specs.Board.{Board}
use Rattle.scmi_plan.specs.declared.limits.TheConstants.{AGENTS, DEVICES, DOMAINS}
use Rattle.scmi_base.specs.Permission.{is_allowed}
use Rattle.scmi_plan.specs.declared.scope.Scope.{Scope}
use Rattle.scmi_power.specs.PowerTable.{is_subscribed}
use Rattle.scmi_core.specs.declared.event.Event.{Event}
use Rattle.scmi_core.specs.declared.tables.Tables.{Tables}
use Rattle.scmi_core.specs.Value.{Thing, value}
use Rattle.scmi_core.specs.Permissions.{has_permission}
use Rattle.scmi_core.specs.Subscriptions.{is_subscriber}
use Rattle.scmi_core.specs.Pending.{pending_sets}
use Rattle.scmi_core.specs.History.{deeds, outbox}
use Rattle.scmi_core.specs.Legal.{IsLegal}
use Rattle.scmi_core.specs.Tables.{outbox_at, value_at, IsThing, IsOfBoard}

-- the tables of a controller say what its history says: who is allowed and who is notified, each
-- value, the pending sets and the outboxes
pub record Agrees (board : Board) (t : Tables) (h : List Event) : Type 0 where
  pub legal : IsLegal board h
  pub permissions : (a d : ℕ) (scope : Scope) → 1 ≤ a → a ≤ AGENTS → d < DEVICES
      → is_allowed t.base a d scope ≡ has_permission board a d scope (deeds board h)
  pub subscriptions : (a d : ℕ) → 1 ≤ a → a ≤ AGENTS → d < DOMAINS
      → is_subscribed t.power a d ≡ is_subscriber board a d (deeds board h)
  pub values : (x : Thing) → IsThing board x → value_at t x ≡ value board x (deeds board h)
  pub pending : t.pending ≡ pending_sets board (deeds board h)
  pub known : All (IsOfBoard board) t.pending
  pub outboxes : (a : ℕ) → 1 ≤ a → a ≤ length board.agents → outbox_at t a ≡ outbox board a h
