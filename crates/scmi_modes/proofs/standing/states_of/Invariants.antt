use Rattle.std.proofs.Common.{◌≡◌, ℕ, ◌<◌, length, get_or}
use Rattle.scmi_plan.specs.declared.limits.TheConstants.{DOMAINS}
use Rattle.scmi_core.specs.History.{value_after}
use Rattle.scmi_core.specs.Value.{State}
use Rattle.scmi_modes.proofs.standing.states_of.Given as goal

abbrev pub invariant-domains : goal.invariant-domains
invariant-domains l = record {
  room : length l.states ≡ DOMAINS;
  so_far : (d : ℕ) → d < l.domain
      → get_or l.states d 0 ≡ value_after l.core.board (State d) l.core.history;
}
