use Rattle.std.proofs.Common.{◌≡◌, ◌<◌, ◌++◌, ◌∷◌, [], ℕ, Some, slice_get}
use Rattle.scmi_judge.specs.Exact.{HaveGrown, IsTriedAbove}
use Rattle.scmi_judge.specs.Guesses.{KeepBoard, StayFound, places}
use Rattle.scmi_judge.specs.declared.unseen.Act.{Act}
use Rattle.scmi_judge.specs.declared.unseen.TheConstants.{ACTS}
use Rattle.scmi_judge.proofs.guesses.Guesses.try_acts.Given as goal

abbrev pub invariant-acts : goal.invariant-acts
invariant-acts l =
    record {
      keeps : KeepBoard l.initial.self l.self;
      tried : l.self.tried ≡ l.initial.self.tried;
      others : l.self.others ≡ l.initial.self.others;
      places : places l.self ≡ places l.initial.self;
      grown : HaveGrown l.initial.self.unseen l.guess l.initial.self.left.items l.self.left.items;
      found : StayFound l.initial.self.unseen l.guess l.initial.self.tried.items
          l.initial.self.left.items l.self.left.items;
      each : (n : ℕ) (a : Act) → n < l.act-index → slice_get ACTS n ≡ Some a
          → IsTriedAbove l.initial.self.unseen l.guess a 0
          ((l.initial.self.tried.items ++ l.guess ∷ []) ++ l.self.left.items);
    }
