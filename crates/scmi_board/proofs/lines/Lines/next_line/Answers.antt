use Rattle.std.proofs.Common.{sym, ◌∙◌, arith}
use Rattle.std.proofs.lemmas.Grind.{common_steps}
use Rattle.scmi_board.specs.Lines.{lines_of}
use Rattle.scmi_board.proofs.LineLemmas.{counted, last_later, none_behind, skipped}
use Rattle.scmi_board.proofs.lines.Lines.next_line.Goals as goal

pub returns-then-is_significant-clause-lines : goal.returns-then-is_significant-clause-lines
returns-then-is_significant-clause-lines c =
    let counts = counted c.loop-text.self.number c.cut.new.self.number
    (lines_of c.loop-text.self.rest) (lines_of c.cut.new.self.rest) c.in-Some.text.now
    c.in-Some.ensures.lines c.in-Some.ensures.number (sym c.if-is_significant.ensures) in
    first_of (cc, grind (arith, common_steps))

pub returns-then-is_significant-clause-last : goal.returns-then-is_significant-clause-last
returns-then-is_significant-clause-last c =
    last_later c.loop-text.self.number c.cut.new.self.number (lines_of c.loop-text.self.rest)
    (lines_of c.cut.new.self.rest) c.in-Some.text.now c.in-Some.ensures.lines
    c.in-Some.ensures.number ∙ c.loop-text.invariant.last

pub loop-text-preserved : goal.loop-text-preserved
loop-text-preserved c = record {
  smaller = omega (arith, c.in-Some.ensures.smaller);
  lines = skipped c.loop-text.self.number c.cut.new.self.number (lines_of c.loop-text.self.rest)
      (lines_of c.cut.new.self.rest) c.in-Some.text.now c.in-Some.ensures.lines
      c.in-Some.ensures.number (sym c.if-is_significant.ensures) ∙ c.loop-text.invariant.lines;
  last = last_later c.loop-text.self.number c.cut.new.self.number (lines_of c.loop-text.self.rest)
      (lines_of c.cut.new.self.rest) c.in-Some.text.now c.in-Some.ensures.lines
      c.in-Some.ensures.number ∙ c.loop-text.invariant.last;
}

pub returns-clause-lines : goal.returns-clause-lines
returns-clause-lines c = sym c.loop-text.invariant.lines
    ∙ none_behind c.loop-text.self.number c.loop-text.self.rest c.in_default.ensures.lines.0
