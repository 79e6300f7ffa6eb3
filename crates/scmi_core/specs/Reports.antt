-- What the report of a change leaves that the hardware made by itself.
use Rattle.std.specs.Prelude.{◌≡◌, ℕ, false, List, [], ◌∷◌, ◌++◌, None, Some}
use Rattle.scmi_plan.specs.Board.{Board}
use Rattle.scmi_plan.specs.declared.scope.Scope.{Scope}
use Rattle.scmi_plan.specs.declared.effect.Effect.{Effect}
use Rattle.scmi_core.specs.declared.event.Event.{Event}
use Rattle.scmi_core.specs.declared.event.Event.TheVariants.{Reported}
use Rattle.scmi_core.specs.Effect.{effect_after}
use Rattle.scmi_core.specs.History.{deeds, is_subscriber_after, made_for, value_after}
use Rattle.scmi_core.specs.Outbox.{made_in, situation_after}
use Rattle.scmi_core.specs.Pending.{pending_sets}
use Rattle.scmi_core.specs.Permissions.{has_permission}
use Rattle.scmi_core.specs.Value.{Thing, change_reported, same_thing}

-- the history with a report after it
abbrev pub and_report : List Event → Effect → List Event
and_report h effect = h ++ Reported effect ∷ []

-- after a report its thing has the value that it says, each agent was made the notification of that
-- change if it is one for it, and all else is as it was: the other values, the pending sets,
-- permissions and requests
pub record IsTakenOver (board : Board) (h : List Event) (effect : Effect) : Type 0 where
  pub changed : effect_after board h (Reported effect) ≡ Some effect
  pub value : value_after board (change_reported effect).thing (and_report h effect)
      ≡ (change_reported effect).value
  pub others : (x : Thing) → same_thing (change_reported effect).thing x ≡ false
      → value_after board x (and_report h effect) ≡ value_after board x h
  pub pending : pending_sets board (deeds board (and_report h effect))
      ≡ pending_sets board (deeds board h)
  pub permissions : (a d : ℕ) (scope : Scope) → has_permission board a d scope
      (deeds board (and_report h effect)) ≡ has_permission board a d scope (deeds board h)
  pub requests : (a d : ℕ)
      → is_subscriber_after board a d (and_report h effect) ≡ is_subscriber_after board a d h
  pub made : (a : ℕ) → made_for board a (and_report h effect)
      ≡ made_for board a h ++ made_in a (situation_after board a (deeds board h))
      (pending_sets board (deeds board h)) None (Some (change_reported effect))
