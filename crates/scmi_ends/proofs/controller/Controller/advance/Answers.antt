use Rattle.std.proofs.Common.{map}
use Rattle.scmi_ends.specs.Agreement.{EndsAgree}
use Rattle.scmi_ends.proofs.AgreementLemmas.{agrees_after}
use Rattle.scmi_ends.proofs.controller.Controller.advance.Goals as goal
use Rattle.scmi_ends.proofs.controller.Controller.advance.Goals.{After-advance}

keeps : (g : _) (c : After-advance g) → EndsAgree c.advance.new.self.board
    c.advance.new.self.history (map g.C.Channel.callee_view c.self.inside.callees.items)
    (map g.C.Channel.caller_view c.self.inside.callers.items) c.self.inside.closed_at.items
keeps g c = agrees_after c.self.inside.core c.advance.new.self _ _ _ c.advance.result
    c.self.invariant c.advance.ensures.board c.advance.ensures.legal c.advance.ensures.event
    c.advance.ensures.same c.advance.ensures.err

pub invariant_of-self : goal.invariant_of-self
invariant_of-self g c = keeps g (goal.at.invariant_of-self g c).After-advance

pub returns-clause-agrees : goal.returns-clause-agrees
returns-clause-agrees g c = keeps g (goal.at.returns-clause-agrees g c).After-advance
