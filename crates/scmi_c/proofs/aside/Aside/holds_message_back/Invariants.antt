use Rattle.std.proofs.Common.{◌≡◌, ◌<◌, ℕ, true, slice_get, IsSomeAnd, suc}
use Rattle.scmi_c.specs.Aside.{holds_back}
use Rattle.scmi_c.specs.Kept.{command_at}
use Rattle.scmi_c.proofs.aside.Aside.holds_message_back.Given as goal

abbrev pub invariant-loop-place : goal.invariant-loop-place
invariant-loop-place l =
    (k : ℕ) → k < l.place → IsSomeAnd (command_at (suc k) (slice_get l.self.slots k))
    (λ command. holds_back command l.agent l.message ≡ true) → ⊥
