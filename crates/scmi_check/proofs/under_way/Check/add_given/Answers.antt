use Rattle.std.proofs.Common.{◌∙◌, ap, subst}
use Rattle.std.specs.Prelude.{OnOk}
use Rattle.scmi_board.specs.Lines.{line_of}
use Rattle.scmi_check.specs.CheckError.{error_of_text}
use Rattle.scmi_check.specs.RecordText.{shows_of}
use Rattle.scmi_check.specs.UnderWay.{AddsLine}
use Rattle.scmi_check.proofs.Before.{refused-elsewhere}
use Rattle.scmi_check.proofs.Growing.{if-err, on-ok}
use Rattle.scmi_check.proofs.Telling.{adds-line, fails-line}
use Rattle.scmi_check.proofs.under_way.Check.add_given.Goals as goal

pub returns-in-Err-clause-errors : goal.returns-in-Err-clause-errors
returns-in-Err-clause-errors g c = λ r b all judged notes way.
    fails-line r b all judged notes c.args.self.now way
    (line_of c.args.line) c.in-Err.error c.from.result c.in-Err.ensures
    (c.from.ensures ∙ ap error_of_text c.in_script.ensures)

pub returns-clause-line : goal.returns-clause-line
returns-clause-line g c = λ r b all judged notes way.
    let given = g.L.Listener.judged in
    let noted = g.L.Listener.noted in
    let first = c.args.listener.now in
    let at = c.at_line.new.self in
    let last = c.tell.new.listener in
    let line = line_of c.args.line in
    let new = c.tell.new.self in
    subst (λ old. OnOk c.tell.result (AddsLine r b all judged notes line new old (given last)
    (noted first) (noted last))) c.at_line.ensures.judged
    (subst (λ old. OnOk c.tell.result (AddsLine r b all judged notes line new (given at)
    (given last) old (noted last))) c.at_line.ensures.noted
    (on-ok c.tell.result
    (c.tell.ensures.told r b way.placed judged notes way.agents_are way.judging)
    (adds-line r b all judged notes c.args.self.now way line (shows_of c.add_line.new.so_far) new
    (given at) (given last) (noted at) (noted last) c.in_default.ensures)))

pub returns-clause-before : goal.returns-clause-before
returns-clause-before g c =
    if-err c.tell.result c.tell.ensures.errors
    (λ e refused at. absurd (refused-elsewhere e refused at))
