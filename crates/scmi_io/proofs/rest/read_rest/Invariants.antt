use Rattle.std.proofs.Common.{◌≡◌, ◌≤◌, ◌+◌, vec_len}
use Rattle.std.specs.Io.KnownBytes.{Consumes}
use Rattle.scmi_io.specs.declared.input.TheConstants.{INPUT_BYTES}
use Rattle.scmi_io.proofs.rest.read_rest.Given as goal

abbrev pub invariant-reads : goal.invariant-reads
invariant-reads g l = record {
  read : Consumes (g.R.CountedRead.remaining l.fn.reader)
      (g.R.CountedRead.remaining l.reader) l.all.items;
  small : vec_len l.all ≤ INPUT_BYTES;
  count : g.R.CountedRead.reads l.reader ≤ g.R.CountedRead.reads l.fn.reader + l.counter;
  stops : g.R.CountedRead.since_failure l.fn.reader ≡ 0
      → g.R.CountedRead.since_failure l.reader ≡ 0;
}
