use Rattle.std.proofs.Common.{◌≡◌, ℕ, ◌+◌, ◌<◌, length, get_or}
use Rattle.scmi_plan.specs.declared.limits.TheConstants.{AGENTS}
use Rattle.scmi_core.specs.History.{outbox}
use Rattle.scmi_modes.proofs.standing.waiting_of.Given as goal

abbrev pub invariant-agents : goal.invariant-agents
invariant-agents l = record {
  room : length l.waiting ≡ AGENTS;
  so_far : (i : ℕ) → i < l.index
      → get_or l.waiting i 0 ≡ length (outbox l.core.board (i + 1) l.core.history);
}
