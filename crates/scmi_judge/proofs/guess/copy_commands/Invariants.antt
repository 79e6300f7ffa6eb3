use Rattle.std.proofs.Common.{◌≡◌, ℕ, ◌<◌, None, get_or, length}
use Rattle.scmi_judge.proofs.guess.copy_commands.Given as goal

abbrev pub invariant-places : goal.invariant-places
invariant-places l =
    record {
      long : length l.commands ≡ 8;
      same : (k : ℕ) → k < l.place → get_or l.commands k None ≡ get_or l.others k None;
    }
