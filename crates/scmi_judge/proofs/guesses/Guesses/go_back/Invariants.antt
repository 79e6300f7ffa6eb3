use Rattle.std.proofs.Common.{◌≡◌, []}
use Rattle.scmi_judge.specs.Guesses.{KeepBoard, all_places, places}
use Rattle.scmi_judge.proofs.guesses.Guesses.go_back.Given as goal

abbrev pub invariant-each : goal.invariant-each
invariant-each l =
    record {
      keeps : KeepBoard l.fn.self l.self;
      tried : l.self.tried.items ≡ [];
      others : l.self.others.items ≡ [];
      places : places l.self ≡ all_places l.fn.self;
    }
