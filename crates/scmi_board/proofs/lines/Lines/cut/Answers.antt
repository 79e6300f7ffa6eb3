use Rattle.std.proofs.Common.{ap, sym, ◌∙◌}
use Rattle.scmi_board.specs.Lines.{LinesView, lines_of}
use Rattle.scmi_board.proofs.LineLemmas.{cut_at}
use Rattle.scmi_board.proofs.lines.Lines.cut.Goals as goal

pub returns-clause-lines : goal.returns-clause-lines
returns-clause-lines c =
    sym (ap (λ (lines : LinesView). lines_of lines.rest) c.self.view_is)
    ∙ cut_at c.self.inside.rest.now c.split_at.result.0.now
    c.split_at.result.1.now c.behind_first-self-inside.result.now c.first_place.result
    (sym c.if-is_empty.ensures) c.first_place.ensures.place c.split_at.ensures.front
    c.split_at.ensures.back c.behind_first-self-inside.ensures
