use Rattle.std.proofs.Common.{◌≡◌, ℕ, ◌<◌, None, get_or, length}
use Rattle.scmi_judge.proofs.guess.copy_all.Given as goal

abbrev pub invariant-agents : goal.invariant-agents
invariant-agents l =
    record {
      long : length l.posted ≡ 8;
      same : (k : ℕ) → k < l.agent → get_or l.posted k None ≡ get_or l.others k None;
    }
