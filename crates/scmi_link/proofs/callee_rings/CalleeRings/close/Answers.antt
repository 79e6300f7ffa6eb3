use Rattle.std.proofs.Common.{rules, ◌≡◌, ◌⊎◌, ◌++◌, ◌∷◌, [], true, ◌∙◌, sym}
use Rattle.std.proofs.lemmas.Bool.{false≢true}
use Rattle.rtrb.specs.Ring.{sent}
use Rattle.scmi_link.specs.declared.note.Note.TheVariants.{Closing}
use Rattle.scmi_link.specs.CalleeRings.{callee_rings_view}
use Rattle.scmi_link.proofs.RingSteps.{not_true, pushed, closing_said, closing_last}
use Rattle.scmi_link.proofs.callee_rings.CalleeRings.close.Goals as goal
use Rattle.scmi_link.proofs.callee_rings.CalleeRings.close.Goals.{After-push}

-- the note went in, or nothing did
noted : (c : After-push) → (sent c.push.new.self ≡ sent c.args.self.now.answers ++ Closing ∷ [])
    ⊎ (sent c.push.new.self ≡ sent c.args.self.now.answers)
noted c = pushed c.push.result (sent c.args.self.now.answers)
    (sent c.push.new.self) _ _ _ c.push.ensures.ok c.push.ensures.full

pub invariant_of-self-clause-counted : goal.invariant_of-self-clause-counted
invariant_of-self-clause-counted c =
    let d = c.args.self.now in
    rw (closing_said (sent d.answers) (sent c.push.new.self) (noted c)) d.counted

pub invariant_of-self-clause-last : goal.invariant_of-self-clause-last
invariant_of-self-clause-last c =
    let d = c.args.self.now in
    let no_note_before = not_true _ (λ h. false≢true (sym c.if-not-self.true ∙ d.noted h)) in
    closing_last (sent d.answers) (sent c.push.new.self) no_note_before d.last (noted c)

pub returns-then-not-self-clause-closes : goal.returns-then-not-self-clause-closes
returns-then-not-self-clause-closes c =
    let d = c.args.self.now in
    let answered = closing_said (sent d.answers) (sent c.push.new.self)
    (noted (goal.at.returns-then-not-self-clause-closes c).After-push) in
    (search rules, λ i. record (callee_rings_view d) { answered = answered i; closed = true })
