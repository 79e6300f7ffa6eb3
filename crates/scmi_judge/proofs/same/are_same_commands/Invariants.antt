use Rattle.std.proofs.Common.{◌≡◌, ℕ, ◌<◌, None, get_or}
use Rattle.scmi_judge.proofs.same.are_same_commands.Given as goal

abbrev pub invariant-places : goal.invariant-places
invariant-places l = (k : ℕ) → k < l.place → get_or l.a k None ≡ get_or l.b k None
