use Rattle.std.proofs.Common.{◌<◌, length, arith}
use Rattle.scmi_io.specs.declared.input.TheConstants.{INPUT_BYTES}
use Rattle.scmi_io.proofs.NextLine.{too_long}
use Rattle.scmi_io.proofs.input.Input.read_line.Goals as goal

pub returns-then-len-gt-INPUT_BYTES-clause-size : goal.returns-then-len-gt-INPUT_BYTES-clause-size
returns-then-len-gt-INPUT_BYTES-clause-size g c = λ _.
    let more : INPUT_BYTES < length c.next_piece.new.line.items =
    omega (arith, c.len.ensures, c.if-len-gt-INPUT_BYTES.true) in
    too_long _ _ _ _ _ c.in_ok-whole.whole INPUT_BYTES c.pieces.invariant.seen
    c.in_ok-whole.ensures.line c.in_ok-whole.ensures.further more
