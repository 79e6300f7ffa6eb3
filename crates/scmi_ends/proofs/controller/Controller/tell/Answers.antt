use Rattle.std.proofs.Common.{map, ap, ◌∙◌}
use Rattle.scmi_core.specs.Driven.{asks}
use Rattle.scmi_ends.proofs.PlainCalls.{told_asks}
use Rattle.scmi_ends.specs.Agreement.{EndsAgree}
use Rattle.scmi_ends.proofs.AgreementLemmas.{agrees_after_tell}
use Rattle.scmi_ends.proofs.controller.Controller.tell.Goals as goal
use Rattle.scmi_ends.proofs.controller.Controller.tell.Goals.{After-tell}

keeps : (g : _) (c : After-tell g) → EndsAgree c.tell.new.self.board c.tell.new.self.history
    (map g.C.Channel.callee_view c.self.inside.callees.items)
    (map g.C.Channel.caller_view c.self.inside.callers.items) c.self.inside.closed_at.items
keeps g c = agrees_after_tell c.self.inside.core c.tell.new.self c.args.report _ _
    _ c.tell.result c.self.invariant c.tell.ensures.board c.tell.ensures.legal c.tell.ensures.event
    c.tell.ensures.same c.tell.ensures.err

pub invariant_of-self : goal.invariant_of-self
invariant_of-self g c = keeps g (goal.at.invariant_of-self g c).After-tell

pub returns-clause-agrees : goal.returns-clause-agrees
returns-clause-agrees g c = keeps g (goal.at.returns-clause-agrees g c).After-tell

pub returns-clause-made : goal.returns-clause-made
returns-clause-made g c =
    told_asks c.self.inside.core c.tell.new.self c.args.report c.tell.result c.tell.ensures.board
    c.tell.ensures.event c.tell.ensures.same c.tell.ensures.err
    ∙ ap (λ v. asks v.board v.history) c.self.view_is
