use Rattle.std.proofs.Common.{map, ap, ◌∙◌}
use Rattle.scmi_core.specs.Driven.{asks}
use Rattle.scmi_ends.proofs.PlainCalls.{restarted_asks}
use Rattle.scmi_ends.specs.Agreement.{EndsAgree}
use Rattle.scmi_ends.proofs.AgreementLemmas.{agrees_after_restart}
use Rattle.scmi_ends.proofs.controller.Controller.restart.Goals as goal
use Rattle.scmi_ends.proofs.controller.Controller.restart.Goals.{After-restart}

keeps : (g : _) (c : After-restart g) → EndsAgree c.restart.new.self.board
    c.restart.new.self.history (map g.C.Channel.callee_view c.self.inside.callees.items)
    (map g.C.Channel.caller_view c.self.inside.callers.items) c.self.inside.closed_at.items
keeps g c = agrees_after_restart c.self.inside.core c.restart.new.self c.args.agent
    _ _ _ c.restart.result c.self.invariant c.restart.ensures.board c.restart.ensures.legal
    c.restart.ensures.event c.restart.ensures.err

pub invariant_of-self : goal.invariant_of-self
invariant_of-self g c = keeps g (goal.at.invariant_of-self g c).After-restart

pub returns-clause-agrees : goal.returns-clause-agrees
returns-clause-agrees g c = keeps g (goal.at.returns-clause-agrees g c).After-restart

pub returns-clause-made : goal.returns-clause-made
returns-clause-made g c =
    restarted_asks c.self.inside.core c.restart.new.self c.args.agent c.restart.result
    c.restart.ensures.board c.restart.ensures.event c.restart.ensures.err
    ∙ ap (λ v. asks v.board v.history) c.self.view_is
