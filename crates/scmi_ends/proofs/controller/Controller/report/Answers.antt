use Rattle.std.proofs.Common.{map, ap, ◌∙◌}
use Rattle.scmi_core.specs.Driven.{asks}
use Rattle.scmi_ends.proofs.PlainCalls.{reported_asks}
use Rattle.scmi_ends.specs.Agreement.{EndsAgree}
use Rattle.scmi_ends.proofs.AgreementLemmas.{agrees_after_report}
use Rattle.scmi_ends.proofs.controller.Controller.report.Goals as goal
use Rattle.scmi_ends.proofs.controller.Controller.report.Goals.{After-report}

keeps : (g : _) (c : After-report g) → EndsAgree c.report.new.self.board c.report.new.self.history
    (map g.C.Channel.callee_view c.self.inside.callees.items)
    (map g.C.Channel.caller_view c.self.inside.callers.items) c.self.inside.closed_at.items
keeps g c = agrees_after_report c.self.inside.core c.report.new.self c.args.effect
    _ _ _ c.report.result c.self.invariant c.report.ensures.board c.report.ensures.legal
    c.report.ensures.event c.report.ensures.err

pub invariant_of-self : goal.invariant_of-self
invariant_of-self g c = keeps g (goal.at.invariant_of-self g c).After-report

pub returns-clause-agrees : goal.returns-clause-agrees
returns-clause-agrees g c = keeps g (goal.at.returns-clause-agrees g c).After-report

pub returns-clause-made : goal.returns-clause-made
returns-clause-made g c =
    reported_asks c.self.inside.core c.report.new.self c.args.effect c.report.result
    c.report.ensures.board c.report.ensures.event c.report.ensures.err
    ∙ ap (λ v. asks v.board v.history) c.self.view_is
