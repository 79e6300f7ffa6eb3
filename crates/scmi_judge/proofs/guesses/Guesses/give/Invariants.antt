use Rattle.std.proofs.Common.{◌≡◌, ◌++◌, [], length, reverse}
use Rattle.scmi_judge.specs.Exact.{AreGiven}
use Rattle.scmi_judge.specs.Guesses.{AreDifferent, KeepBoard, all_places}
use Rattle.scmi_judge.proofs.guesses.Guesses.give.Given as goal

abbrev pub invariant-each : goal.invariant-each
invariant-each l =
    record {
      keeps : KeepBoard l.initial.self l.self;
      apart : l.self.left.items ≡ [] → l.self.others.items ++ reverse l.self.tried.items
          ≡ l.initial.self.others.items ++ reverse l.initial.self.tried.items;
      different : AreDifferent l.self.left.items;
      places : all_places l.self ≡ all_places l.initial.self;
      given : AreGiven l.initial.self.unseen l.initial.self.tried.items l.entry l.self.left.items
          l.self.tried.items;
    }

abbrev pub decreases-each : goal.decreases-each
decreases-each l = length l.self.tried.items
