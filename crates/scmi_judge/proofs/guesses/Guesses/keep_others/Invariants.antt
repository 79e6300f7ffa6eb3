use Rattle.std.proofs.Common.{◌≡◌, ◌++◌, length, reverse}
use Rattle.scmi_judge.specs.Guesses.{KeepBoard, all_places}
use Rattle.scmi_judge.proofs.guesses.Guesses.keep_others.Given as goal

abbrev pub invariant-each : goal.invariant-each
invariant-each l =
    record {
      keeps : KeepBoard l.initial.self l.self;
      places : all_places l.self ≡ all_places l.initial.self;
      left : l.self.left.items ++ reverse l.self.others.items
          ≡ l.initial.self.left.items ++ reverse l.initial.self.others.items;
      tried : l.self.tried ≡ l.initial.self.tried;
    }

abbrev pub decreases-each : goal.decreases-each
decreases-each l = length l.self.others.items
