use Rattle.std.proofs.Common.{◌≡◌, ◌≤◌, length}
use Rattle.scmi_judge.specs.Guesses.{KeepBoard}
use Rattle.scmi_judge.proofs.guesses.Guesses.due.Given as goal

abbrev pub invariant-others : goal.invariant-others
invariant-others l =
    record {
      keeps : KeepBoard l.initial.self l.self;
      left : l.self.left ≡ l.initial.self.left;
      tried : l.self.tried ≡ l.initial.self.tried;
      others : l.self.others ≡ l.initial.self.others;
      spare : l.self.spare ≡ l.initial.self.spare;
      few : l.place ≤ length l.initial.self.others.items;
    }

abbrev pub decreases-others : goal.decreases-others
decreases-others l = l.place
