use Rattle.scmi_decode.proofs.OneDump.{forms_reported}
use Rattle.scmi_decode.proofs.decode.decode_input.Goals as goal

pub returns-then-branch-clause-forms : goal.returns-then-branch-clause-forms
returns-then-branch-clause-forms g c =
    forms_reported c.args.layout c.args.input.now.left (g.S.Findings.taken c.args.sink.now)
    (g.S.Findings.taken c.decode_lines.new.sink) c.in_ok-decode_lines.ensures.taken
