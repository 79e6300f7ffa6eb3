use Rattle.std.proofs.Common.{◌≡◌, ◌++◌, ◌∷◌, [], ap, ◌∙◌, sym, true}
use Rattle.rtrb.specs.Ring.{received}
use Rattle.scmi_link.specs.declared.note.Note.TheVariants.{Closing}
use Rattle.scmi_link.specs.Note.{answers_among}
use Rattle.scmi_link.specs.CallerRings.{caller_rings_view}
use Rattle.scmi_link.proofs.RingSteps.{first_is}
use Rattle.scmi_link.proofs.NoteLemmas.{answers_among-closing, has_closing-closing}
use Rattle.scmi_link.proofs.caller_rings.CallerRings.see_closing_note.Goals as goal
use Rattle.scmi_link.proofs.caller_rings.CallerRings.see_closing_note.Goals.{After-drop_first}

-- the closing note was taken
note_came : (c : After-drop_first)
    → received c.drop_first.new.ring ≡ received c.args.self.now.answers ++ Closing ∷ []
note_came c = c.drop_first.ensures.dropped.1 ∙ ap (λ ns. ns ++ c.drop_first.ensures.dropped.0 ∷ [])
    c.is_empty.ensures.looked.1 ∙ ap (λ n. received c.args.self.now.answers ++ n ∷ [])
    (first_is _ _ _ _ c.peek_known.ensures c.drop_first.ensures.dropped.2 ∙ c.in-Closing.is)

-- and no answer with it
no_answer : (c : After-drop_first) → answers_among (received c.drop_first.new.ring)
    ≡ answers_among (received c.args.self.now.answers)
no_answer c = ap answers_among (note_came c)
    ∙ answers_among-closing (received c.args.self.now.answers)

pub invariant_of-self-in-Closing-clause-counted : goal.invariant_of-self-in-Closing-clause-counted
invariant_of-self-in-Closing-clause-counted c = rw (no_answer c) c.args.self.now.counted

pub invariant_of-self-in-Closing-clause-heard : goal.invariant_of-self-in-Closing-clause-heard
invariant_of-self-in-Closing-clause-heard c =
    rw (note_came c) (sym (has_closing-closing (received c.args.self.now.answers)))

pub returns-in-Closing-clause-view : goal.returns-in-Closing-clause-view
returns-in-Closing-clause-view c =
    let read = no_answer (goal.at.returns-in-Closing-clause-view c).After-drop_first in
    λ i. record (caller_rings_view c.args.self.now) { read = read i; told = true }
