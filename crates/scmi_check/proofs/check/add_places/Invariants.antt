use Rattle.std.proofs.Common.{◌≡◌, ◌+◌, [], length}
use Rattle.scmi_judge.specs.Judging.{Knows}
use Rattle.scmi_check.specs.declared.check.TheConstants.{PLACES}
use Rattle.scmi_check.proofs.check.add_places.Given as goal

abbrev pub invariant-places : goal.invariant-places
invariant-places l =
    record {
      board : l.judge.board ≡ l.plan;
      unseen : l.judge.unseen ≡ l.fn.judge.unseen;
      knows : Knows l.judge [];
      places : length l.judge.guesses + length l.judge.spare ≡ 1 + l._place;
    }

abbrev pub invariant-kept : goal.invariant-kept
invariant-kept l =
    record {
      board : l.judge.board ≡ l.plan;
      unseen : l.judge.unseen ≡ l.fn.judge.unseen;
      knows : Knows l.judge [];
      places : length l.judge.guesses + length l.judge.spare ≡ 1 + PLACES;
    }
