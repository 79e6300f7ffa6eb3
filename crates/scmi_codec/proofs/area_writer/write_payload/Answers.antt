use Rattle.std.proofs.Common.{arith}
use Rattle.scmi_codec.proofs.ShortLemmas.{write-one, write-two, write-three}
use Rattle.scmi_codec.proofs.area_writer.write_payload.Goals as goal

pub returns-then-count-eq1-clause-written : goal.returns-then-count-eq1-clause-written
returns-then-count-eq1-clause-written c =
    rw c.write_word.ensures (write-one c.args.words.now c.args.area.now c.if-count-eq1.true)

pub returns-then-count-eq2-clause-written : goal.returns-then-count-eq2-clause-written
returns-then-count-eq2-clause-written c =
    rw (c.write_word-2.ensures, c.write_word.ensures)
    (write-two c.args.words.now c.args.area.now c.if-count-eq2.true)

pub returns-clause-written : goal.returns-clause-written
returns-clause-written c =
    rw (c.write_word-3.ensures, c.write_word-2.ensures, c.write_word.ensures)
    (write-three c.args.words.now c.args.area.now
    (omega (arith, c.if-count-gt3.false, c.if-count-eq1.false, c.if-count-eq2.false)))
