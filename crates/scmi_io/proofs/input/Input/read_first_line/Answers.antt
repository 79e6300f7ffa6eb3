use Rattle.std.proofs.Common.{◌≡◌, true, false, arith}
use Rattle.std.proofs.lemmas.Bool.Decides.{nat_tests}
use Rattle.scmi_io.specs.Lines.{is_line_feed}
use Rattle.scmi_io.proofs.FirstLine.{if_more, if_feed, if_end}
use Rattle.scmi_io.proofs.input.Input.read_first_line.Goals as goal

pub returns-in_default-clause-line : goal.returns-in_default-clause-line
returns-in_default-clause-line g c =
    (if_end _ c.bytes.counter _ _ _ c.bytes.invariant.seen
    (rw c.in_default.is at c.in_ok-byte.ensures.byte)).0

pub returns-in_default-clause-rest : goal.returns-in_default-clause-rest
returns-in_default-clause-rest g c =
    (if_end _ c.bytes.counter _ _ c.bytes.kept.items c.bytes.invariant.seen
    (rw c.in_default.is at c.in_ok-byte.ensures.byte)).1

pub returns-then-byte-eq10-clause-line : goal.returns-then-byte-eq10-clause-line
returns-then-byte-eq10-clause-line g c =
    let feed : is_line_feed c.in-Some.byte ≡ true = grind (arith, nat_tests) in
    (if_feed _ c.bytes.counter c.in-Some.byte _ _ _ c.bytes.invariant.seen
    (rw c.in-Some.is at c.in_ok-byte.ensures.byte) feed).0

pub returns-then-byte-eq10-clause-rest : goal.returns-then-byte-eq10-clause-rest
returns-then-byte-eq10-clause-rest g c =
    let feed : is_line_feed c.in-Some.byte ≡ true = grind (arith, nat_tests) in
    (if_feed _ c.bytes.counter c.in-Some.byte _ _ c.bytes.kept.items c.bytes.invariant.seen
    (rw c.in-Some.is at c.in_ok-byte.ensures.byte) feed).1

pub bytes-preserved : goal.bytes-preserved
bytes-preserved g c =
    let other : is_line_feed c.in-Some.byte ≡ false = grind (arith, nat_tests) in
    record {
      seen = if_more _ c.bytes.counter c.in-Some.byte _ _ _ _ c.bytes.invariant.seen
          (rw c.in-Some.is at c.in_ok-byte.ensures.byte) other c.keep.ensures;
      count = omega (arith, c.in_ok-byte.ensures.reads, c.bytes.invariant.count);
      stops = λ none. c.in_ok-byte.ensures.stops (c.bytes.invariant.stops none);
    }
