use Rattle.std.proofs.Common.{◌≡◌, ◌<◌, ◌≤◌, ◌++◌, ℕ}
use Rattle.scmi_core.specs.Tables.{outbox_at}
use Rattle.scmi_core.specs.Step.{told_at, SameButOutboxes}
use Rattle.scmi_core.proofs.tables.Tables.notify.Given as goal

abbrev pub invariant-loop-agent : goal.invariant-loop-agent
invariant-loop-agent l = record {
  kept : SameButOutboxes l.fn.self l.self;
  told : (a : ℕ) → 1 ≤ a → a ≤ l.agent
      → outbox_at l.self a ≡ outbox_at l.fn.self a ++ told_at l.fn.self a l.causer l.domain l.state;
  rest : (a : ℕ) → l.agent < a → outbox_at l.self a ≡ outbox_at l.fn.self a;
}
