use Rattle.std.proofs.Common.{◌≡◌, ◌∙◌, sym, true, false}
use Rattle.scmi_io.specs.Lines.{has_line_feed}
use Rattle.scmi_io.proofs.NextLine.{if_line, if_after, if_ended, if_further}
use Rattle.scmi_io.proofs.input.Input.next_piece.Goals as goal

pub returns-then-branch-clause-line : goal.returns-then-branch-clause-line
returns-then-branch-clause-line g c =
    let has : has_line_feed c.refill.new.ahead ≡ true = sym c.in_ok-take_line.ensures.ended
    ∙ c.if-branch.true in
    rw (sym c.self.view_is)
    (if_line _ _ _ _ _ c.in_ok-refill.ensures.bytes has c.in_ok-take_line.ensures.line)

pub returns-then-branch-clause-rest : goal.returns-then-branch-clause-rest
returns-then-branch-clause-rest g c =
    let has : has_line_feed c.refill.new.ahead ≡ true = sym c.in_ok-take_line.ensures.ended
    ∙ c.if-branch.true in
    rw (sym c.self.view_is)
    (if_after _ _ _ _ c.in_ok-refill.ensures.bytes has c.in_ok-take_line.ensures.rest)

pub returns-then-branch-clause-ended : goal.returns-then-branch-clause-ended
returns-then-branch-clause-ended g c =
    let has : has_line_feed c.refill.new.ahead ≡ true = sym c.in_ok-take_line.ensures.ended
    ∙ c.if-branch.true in
    rw (sym c.self.view_is) (if_ended _ _ c.refill.new.ahead c.in_ok-refill.ensures.bytes has)

pub returns-clause-further : goal.returns-clause-further
returns-clause-further g c =
    let none : has_line_feed c.refill.new.ahead ≡ false = sym c.in_ok-take_line.ensures.ended
    ∙ c.if-branch.false in
    rw (sym c.self.view_is) (if_further _ _ _ _ _ _ c.in_ok-refill.ensures.bytes none
    c.in_ok-take_line.ensures.rest c.in_ok-take_line.ensures.line)
