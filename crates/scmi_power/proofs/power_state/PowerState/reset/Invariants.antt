use Rattle.std.proofs.Common.{◌≡◌, ℕ, ◌<◌, ◌≤◌, ◌==◌, ◌-◌, length, get_or, if◌then◌else◌, false}
use Rattle.std.specs.Int.{bit_at}
use Rattle.scmi_plan.specs.declared.limits.TheConstants.{AGENTS, DOMAINS}
use Rattle.scmi_power.proofs.power_state.PowerState.reset.Given as goal

abbrev pub invariant-loop-domain : goal.invariant-loop-domain
invariant-loop-domain l = record {
  room : length l.subscribers ≡ DOMAINS;
  cleared : (a d : ℕ) → 1 ≤ a → a ≤ AGENTS → d < l.domain
      → (bit_at (get_or l.subscribers d 0) (a - 1) == 1) ≡ (if l.agent == a then false
      else (bit_at (get_or l.self-inside.subscribers d 0) (a - 1) == 1));
  rest : (d : ℕ) → l.domain ≤ d → get_or l.subscribers d 0 ≡ get_or l.self-inside.subscribers d 0;
}
