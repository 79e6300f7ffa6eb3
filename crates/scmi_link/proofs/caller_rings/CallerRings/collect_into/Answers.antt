use Rattle.std.proofs.Common.{◌≡◌, ◌++◌, ◌∷◌, [], true, ap, ◌∙◌, sym, refl, arith, length-append}
use Rattle.std.proofs.lemmas.Bool.{false≢true}
use Rattle.rtrb.specs.Ring.{received}
use Rattle.scmi_link.specs.declared.note.Note.TheVariants.{Said, Closing}
use Rattle.scmi_link.specs.View.{IsOutstanding, one_more}
use Rattle.scmi_link.specs.Note.{answers_among, has_closing}
use Rattle.scmi_link.specs.Bit.{bit}
use Rattle.scmi_link.specs.CallerRings.{caller_rings_view}
use Rattle.scmi_link.proofs.NoteLemmas.{answers_among-said, answers_among-closing, has_closing-said, has_closing-closing}
use Rattle.scmi_link.proofs.RingSteps.{or_true, told_now}
use Rattle.scmi_link.proofs.caller_rings.CallerRings.collect_into.Goals as goal
use Rattle.scmi_link.proofs.caller_rings.CallerRings.collect_into.Goals.{In-Said, In-Closing}

-- an answer was taken out of the ring
answer_came : (c : In-Said) → received c.pop_known.new.self
    ≡ received c.args.self.now.answers ++ Said c.in-Said.envelope ∷ []
answer_came c = c.pop_known.ensures.received.0 ∙ ap (λ ns. ns ++ c.pop_known.result ∷ [])
    c.is_empty.ensures.looked.1 ∙ ap (λ n. received c.args.self.now.answers ++ n ∷ []) c.in-Said.is

one_answer : (c : In-Said) → answers_among (received c.pop_known.new.self)
    ≡ answers_among (received c.args.self.now.answers) ++ c.in-Said.envelope.value.answer ∷ []
one_answer c = ap answers_among (answer_came c)
    ∙ answers_among-said (received c.args.self.now.answers) c.in-Said.envelope

-- the closing note was taken out of the ring
note_came : (c : In-Closing)
    → received c.pop_known.new.self ≡ received c.args.self.now.answers ++ Closing ∷ []
note_came c = c.pop_known.ensures.received.0
    ∙ ap (λ ns. ns ++ c.pop_known.result ∷ []) c.is_empty.ensures.looked.1
    ∙ ap (λ n. received c.args.self.now.answers ++ n ∷ []) c.in-Closing.is

no_answer : (c : In-Closing) → answers_among (received c.pop_known.new.self)
    ≡ answers_among (received c.args.self.now.answers)
no_answer c = ap answers_among (note_came c)
    ∙ answers_among-closing (received c.args.self.now.answers)

pub invariant_of-self-in-Said-clause-counted : goal.invariant_of-self-in-Said-clause-counted
invariant_of-self-in-Said-clause-counted c =
    let p = c.args.self.now in
    let waited = ap bit c.if-not-self.false in
    rw (one_answer (goal.at.invariant_of-self-in-Said-clause-counted c).In-Said)
    (omega (
      arith,
      p.counted,
      waited,
      length-append (answers_among (received p.answers)) (c.in-Said.envelope.value.answer ∷ []),
    ))

pub invariant_of-self-in-Said-clause-heard : goal.invariant_of-self-in-Said-clause-heard
invariant_of-self-in-Said-clause-heard c =
    c.args.self.now.heard ∙ sym
    (ap has_closing (answer_came (goal.at.invariant_of-self-in-Said-clause-heard c).In-Said)
    ∙ has_closing-said (received c.args.self.now.answers) c.in-Said.envelope)

pub invariant_of-self-in-Closing-clause-counted : goal.invariant_of-self-in-Closing-clause-counted
invariant_of-self-in-Closing-clause-counted c =
    let p = c.args.self.now in
    let waited = ap bit c.if-not-self.false in
    let stayed = ap bit (p.one c.if-not-self.false) in
    rw (no_answer c) (omega (arith, p.counted, waited, stayed))

pub invariant_of-self-in-Closing-clause-heard : goal.invariant_of-self-in-Closing-clause-heard
invariant_of-self-in-Closing-clause-heard c =
    sym (ap has_closing (note_came c) ∙ has_closing-closing (received c.args.self.now.answers))

pub returns-in-Said-clause-collects : goal.returns-in-Said-clause-collects
returns-in-Said-clause-collects c =
    let p = c.args.self.now in
    let waited = ap bit c.if-not-self.false in
    let stays = p.one c.if-not-self.false in
    let read = one_answer (goal.at.returns-in-Said-clause-collects c).In-Said
    ∙ ap (λ a. answers_among (received p.answers) ++ a ∷ [])
    (sym (c.copy_from.ensures ∙ ap (λ e. e.answer) c.deref.ensures)) in
    record {
      was_outstanding =
          record { unread = omega (arith, p.counted, waited, ap bit stays); stays = stays };
      read = λ i. record (caller_rings_view p) { read = read i; collects = one_more p.collects };
    }

pub returns-in-Closing-clause-collects : goal.returns-in-Closing-clause-collects
returns-in-Closing-clause-collects c =
    let p = c.args.self.now in
    let waited = c.if-not-self.false in
    let stays = p.one waited in
    let read = no_answer (goal.at.returns-in-Closing-clause-collects c).In-Closing in
    let told = told_now p.told p.closed p.waiting waited p.quiet in
    let outstanding : IsOutstanding (caller_rings_view p) =
    record { unread = omega (arith, p.counted, ap bit waited, ap bit stays); stays = stays } in
    record {
      told = λ i. record (caller_rings_view p) {
        read = read i;
        told = told i;
        left = true;
        collects = one_more p.collects;
      };
      known = or_true p.closed;
      given_up = λ _. refl;
      idle = λ not_outstanding. absurd (not_outstanding outstanding);
      none_outstanding = λ still. absurd (false≢true (sym still.stays));
    }
