use Rattle.std.proofs.Common.{◌≡◌, ◌+◌, List, [], length}
use Rattle.std.specs.List.{All}
use Rattle.scmi_plan.specs.Board.{Board}
use Rattle.scmi_judge.specs.Exact.{AreTried, IsKept}
use Rattle.scmi_judge.specs.Guess.{IsReal}
use Rattle.scmi_judge.specs.Guesses.{AreFound, KeepBoard, places}
use Rattle.scmi_judge.specs.declared.entry.Entry.{Entry}
use Rattle.scmi_judge.proofs.guesses.Guesses.close.Given as goal

abbrev pub invariant-each : goal.invariant-each
invariant-each l =
    record {
      keeps : KeepBoard l.initial.self l.self;
      others : l.self.others ≡ l.initial.self.others;
      places : places l.self ≡ places l.initial.self;
      found : (board : Board) (entries : List Entry)
          → AreFound l.initial.self.unseen board entries [] l.initial.self.left.items
          → AreFound l.initial.self.unseen board entries l.self.tried.items l.self.left.items;
      kept : IsKept l.initial.self.unseen l.initial.self.left.items l.self.tried.items
          l.self.left.items;
      tried : AreTried l.initial.self.unseen l.self.tried.items l.self.left.items;
      real : (board : Board) (entries : List Entry)
          → All (IsReal l.initial.self.unseen board entries) l.initial.self.left.items
          → All (IsReal l.initial.self.unseen board entries) l.self.tried.items
          × All (IsReal l.initial.self.unseen board entries) l.self.left.items;
    }

abbrev pub decreases-each : goal.decreases-each
decreases-each l = length l.self.left.items + length l.self.spare.items
