use Rattle.std.proofs.Common.{◌≡◌, ◌≤◌, ◌+◌, []}
use Rattle.std.specs.Io.KnownBytes.{Keeps}
use Rattle.scmi_io.proofs.input.refill.Given as goal

abbrev pub invariant-tries : goal.invariant-tries
invariant-tries g l = record {
  left : Keeps (g.R.CountedRead.remaining l.fn.reader) (g.R.CountedRead.remaining l.reader);
  none : l.ahead ≡ [];
  count : g.R.CountedRead.reads l.reader + l.tries ≤ g.R.CountedRead.reads l.fn.reader + l.fn.tries;
  stops : g.R.CountedRead.since_failure l.fn.reader ≡ 0
      → g.R.CountedRead.since_failure l.reader ≡ 0;
}

abbrev pub decreases-tries : goal.decreases-tries
decreases-tries g l = l.tries
