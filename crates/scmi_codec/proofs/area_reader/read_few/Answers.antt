use Rattle.std.proofs.Common.{arith}
use Rattle.scmi_codec.proofs.ShortLemmas.{read-none, read-one, read-two, read-three, read-four}
use Rattle.scmi_codec.proofs.area_reader.read_few.Goals as goal

pub returns-then-count-eq0 : goal.returns-then-count-eq0
returns-then-count-eq0 c = read-none c.args.words.now c.args.area.now c.if-count-eq0.true

pub returns-then-count-eq1 : goal.returns-then-count-eq1
returns-then-count-eq1 c =
    rw c.read_word.ensures (read-one c.args.words.now c.args.area.now c.if-count-eq1.true)

pub returns-then-count-eq2 : goal.returns-then-count-eq2
returns-then-count-eq2 c =
    rw (c.read_word.ensures, c.read_word-2.ensures)
    (read-two c.args.words.now c.args.area.now c.if-count-eq2.true)

pub returns-then-count-eq3 : goal.returns-then-count-eq3
returns-then-count-eq3 c =
    rw (c.read_word.ensures, c.read_word-2.ensures, c.read_word-3.ensures)
    (read-three c.args.words.now c.args.area.now c.if-count-eq3.true)

pub returns : goal.returns
returns c =
    rw (c.read_word.ensures, c.read_word-2.ensures, c.read_word-3.ensures, c.read_word-4.ensures)
    (read-four c.args.words.now c.args.area.now
    (omega (
      arith,
      c.requires.few,
      c.if-count-eq0.false,
      c.if-count-eq1.false,
      c.if-count-eq2.false,
      c.if-count-eq3.false,
    )))
