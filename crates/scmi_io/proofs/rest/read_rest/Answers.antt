use Rattle.std.proofs.Common.{arith}
use Rattle.scmi_io.proofs.RestLemmas.{all_at_end, past_limit}
use Rattle.scmi_io.specs.declared.input.TheConstants.{INPUT_BYTES}
use Rattle.scmi_io.proofs.rest.read_rest.Goals as goal

pub returns-then-count-eq0-clause-whole : goal.returns-then-count-eq0-clause-whole
returns-then-count-eq0-clause-whole g c =
    all_at_end _ _ _ c.reads.all.items c.read.new.buffer c.in-Ok.count c.if-count-eq0.true
    (omega arith) c.reads.invariant.read c.in-Ok.ensures.bytes

pub returns-then-len-count-gt-INPUT_BYTES-clause-size :
    goal.returns-then-len-count-gt-INPUT_BYTES-clause-size
returns-then-len-count-gt-INPUT_BYTES-clause-size g c = λ is.
    past_limit INPUT_BYTES _ _ _ c.reads.all.items c.read.new.buffer c.in-Ok.count
    (omega (arith, c.len.ensures, c.if-len-count-gt-INPUT_BYTES.true)) c.in-Ok.ensures.bound.0
    c.reads.invariant.read c.in-Ok.ensures.bytes
