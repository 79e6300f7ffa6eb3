use Rattle.std.proofs.Common.{◌++◌, ◌∷◌, [], ap, ◌∙◌}
use Rattle.rtrb.specs.Ring.{sent}
use Rattle.scmi_link.specs.Note.{answers_among}
use Rattle.scmi_link.specs.CalleeRings.{callee_rings_view}
use Rattle.scmi_link.proofs.RingSteps.{answered_said, answered_counted, answered_noted, answered_last}
use Rattle.scmi_link.proofs.callee_rings.CalleeRings.reply.Goals as goal

pub invariant_of-self-clause-counted : goal.invariant_of-self-clause-counted
invariant_of-self-clause-counted c =
    answered_counted c.args.self.now _ _ c.requires c.push_reserved.ensures.sent.0

pub invariant_of-self-clause-noted : goal.invariant_of-self-clause-noted
invariant_of-self-clause-noted c =
    answered_noted c.args.self.now _ _ c.requires c.push_reserved.ensures.sent.0

pub invariant_of-self-clause-last : goal.invariant_of-self-clause-last
invariant_of-self-clause-last c =
    answered_last c.args.self.now _ _ c.requires c.push_reserved.ensures.sent.0

pub returns-clause-answered : goal.returns-clause-answered
returns-clause-answered c =
    let d = c.args.self.now in
    let came = answered_said d _ _ c.requires c.push_reserved.ensures.sent.0 in
    let answered = came ∙ ap (λ a. answers_among (sent d.answers) ++ a ∷ []) c.set_reply.ensures in
    λ i. record (callee_rings_view d) { answered = answered i }
