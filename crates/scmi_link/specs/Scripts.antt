-- The scripts of a run, and their orders.
use Rattle.std.specs.Prelude.{◌≡◌, ◌==◌, ℕ, ◌≤◌, Bool, true, false, if◌then◌else◌, List, [], ◌∷◌, map, nat_eq}
use Rattle.std.specs.List.{All, IsDistinct}
use Rattle.scmi_link.specs.declared.order.Order.{Order}
use Rattle.scmi_link.specs.declared.order.Order.TheVariants as order
use Rattle.scmi_link.specs.declared.script.Script.{Script}

-- each script is of one of these agents, numbered from 1, and no two are of the same
pub record AreScriptsOf (agents : ℕ) (scripts : List Script) : Type 0 where
  pub each_of_an_agent : All (λ script. (1 ≤ script.agent) × (script.agent ≤ agents)) scripts
  pub one_of_each : IsDistinct nat_eq (map (λ script. script.agent) scripts)

-- the orders of an agent; none if it has no script
abbrev pub orders_of : List Script → ℕ → List Order
orders_of [] agent = []
orders_of (script ∷ scripts) agent = if script.agent == agent then script.lines.items
    else orders_of scripts agent

-- whether the order is to close
abbrev pub is_close : Order → Bool
is_close order.Close = true
is_close _ = false

-- the orders of a script up to its first close
abbrev pub up_to_close : List Order → List Order
up_to_close [] = []
up_to_close (order ∷ orders) = if is_close order then order ∷ [] else order ∷ up_to_close orders

-- the order is to take no message
abbrev pub IsForNothing : Order → Type 0
IsForNothing (order.P2a count) = count ≡ 0
IsForNothing _ = ⊥
