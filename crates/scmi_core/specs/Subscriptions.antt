-- Who asked to be notified of which domain.
use Rattle.std.specs.Prelude.{ℕ, ◌==◌, Bool, false, if◌then◌else◌, List, Option, Some, None}
use Rattle.std.specs.List.{filter_map}
use Rattle.std.specs.Option.{option_and_then, option_or}
use Rattle.scmi_plan.specs.Board.{Board}
use Rattle.scmi_core.specs.Commands.{request_of, reset_of}
use Rattle.scmi_core.specs.Deed.{Deed, Success, latest, restarted_by, success_at}

-- a reset ends the notification requests of its agent (own)
abbrev pub subscription_after_reset : ℕ → Option ℕ → Option Bool
subscription_after_reset a None = None
subscription_after_reset a (Some agent) = if agent == a then Some false else None

-- what a success says about the subscription of agent a to domain d
abbrev pub subscription : ℕ → ℕ → Success → Option Bool
subscription a d s =
    option_or (subscription_after_reset a (reset_of s.command)) (request_of a d s.caller s.command)

-- what a deed says about it: a restart of the agent ends its requests, as a reset does (own)
abbrev pub subscription_at : Board → ℕ → ℕ → Deed → Option Bool
subscription_at board a d deed =
    option_or (subscription_after_reset a (restarted_by deed.event))
    (option_and_then (subscription a d) (success_at board deed.event deed.reply))

-- an agent is notified of a domain if its latest request, reset or restart says so (DEN0056B, power
-- domain management protocol)
abbrev pub is_subscriber : Board → ℕ → ℕ → List Deed → Bool
is_subscriber board a d h = latest false (filter_map (subscription_at board a d) h)
