use Rattle.std.proofs.Common.{map}
use Rattle.scmi_ends.specs.Agreement.{EndsAgree}
use Rattle.scmi_ends.proofs.AgreementLemmas.{agrees_after_on}
use Rattle.scmi_ends.proofs.controller.Controller.advance_on.Goals as goal
use Rattle.scmi_ends.proofs.controller.Controller.advance_on.Goals.{After-advance_on}

keeps : (g : _) (c : After-advance_on g) → EndsAgree c.advance_on.new.self.board
    c.advance_on.new.self.history (map g.C.Channel.callee_view c.self.inside.callees.items)
    (map g.C.Channel.caller_view c.self.inside.callers.items) c.self.inside.closed_at.items
keeps g c = agrees_after_on c.self.inside.core c.advance_on.new.self
    (g.H.Hardware.asked c.args.hardware.now) (g.H.Hardware.asked c.advance_on.new.hardware) _ _ _
    c.advance_on.result c.self.invariant c.advance_on.ensures.board c.advance_on.ensures.legal
    c.advance_on.ensures.happens c.advance_on.ensures.same c.advance_on.ensures.err

pub invariant_of-self : goal.invariant_of-self
invariant_of-self g c = keeps g (goal.at.invariant_of-self g c).After-advance_on

pub returns-clause-agrees : goal.returns-clause-agrees
returns-clause-agrees g c = keeps g (goal.at.returns-clause-agrees g c).After-advance_on
