use Rattle.std.proofs.Common.{◌≡◌, []}
use Rattle.scmi_judge.specs.Guesses.{KeepBoard, all_places}
use Rattle.scmi_judge.proofs.guesses.Guesses.gives_all.Given as goal

abbrev pub invariant-entries : goal.invariant-entries
invariant-entries l =
    record {
      keeps : KeepBoard l.fn.self l.self;
      tried : l.self.tried.items ≡ [];
      others : l.self.others.items ≡ [];
      places : all_places l.self ≡ all_places l.fn.self;
    }
