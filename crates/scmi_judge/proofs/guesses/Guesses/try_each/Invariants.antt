use Rattle.std.proofs.Common.{◌≡◌, ◌++◌, ◌∷◌, []}
use Rattle.scmi_judge.specs.Exact.{HaveGrown, IsTriedAbove}
use Rattle.scmi_judge.specs.Guesses.{KeepBoard, StayFound, places}
use Rattle.scmi_judge.proofs.guesses.Guesses.try_each.Given as goal

abbrev pub invariant-numbers : goal.invariant-numbers
invariant-numbers l =
    record {
      keeps : KeepBoard l.initial.self l.self;
      tried : l.self.tried ≡ l.initial.self.tried;
      others : l.self.others ≡ l.initial.self.others;
      places : places l.self ≡ places l.initial.self;
      grown : HaveGrown l.initial.self.unseen l.guess l.initial.self.left.items l.self.left.items;
      found : StayFound l.initial.self.unseen l.guess l.initial.self.tried.items
          l.initial.self.left.items l.self.left.items;
      each : IsTriedAbove l.initial.self.unseen l.guess l.act l.number
          ((l.initial.self.tried.items ++ l.guess ∷ []) ++ l.self.left.items);
    }

abbrev pub decreases-numbers : goal.decreases-numbers
decreases-numbers l = l.number
