use Rattle.std.proofs.Common.{◌≡◌, ◌++◌, ◌∷◌, [], length, ap, ◌∙◌, sym, refl, arith, length-append}
use Rattle.rtrb.specs.Ring.{received}
use Rattle.scmi_link.specs.Envelope.{frames_in}
use Rattle.scmi_link.specs.Note.{answers_among, ends_well}
use Rattle.scmi_link.specs.Bit.{bit}
use Rattle.scmi_link.specs.View.{one_more}
use Rattle.scmi_link.specs.CalleeRings.{callee_rings_view}
use Rattle.scmi_link.proofs.NoteLemmas.{frames_in-append}
use Rattle.scmi_link.proofs.callee_rings.CalleeRings.take_into.Goals as goal
use Rattle.scmi_link.proofs.callee_rings.CalleeRings.take_into.Goals.{After-pop_known-envelope}

-- the frame of one more envelope was taken
frame_came : (c : After-pop_known-envelope) → frames_in (received c.pop_known-envelope.new.self)
    ≡ frames_in (received c.args.self.now.frames) ++ c.pop_known-envelope.result.value.frame ∷ []
frame_came c =
    let envelope = c.pop_known-envelope.result in
    ap frames_in (c.pop_known-envelope.ensures.received.0
    ∙ ap (λ es. es ++ envelope ∷ []) c.is_empty.ensures.looked.1) ∙
    frames_in-append (received c.args.self.now.frames) (envelope ∷ [])

pub invariant_of-self-2-clause-counted : goal.invariant_of-self-2-clause-counted
invariant_of-self-2-clause-counted c =
    let d = c.args.self.now in
    let stay = ap (λ ns. length (answers_among ns)) c.is_full.ensures.looked.1 in
    let owed = ap bit c.if-self-2.false in
    rw (frame_came (goal.at.invariant_of-self-2-clause-counted c).After-pop_known-envelope)
    (omega (
      arith,
      d.counted,
      owed,
      stay,
      length-append (frames_in (received d.frames))
          (c.pop_known-envelope.result.value.frame ∷ []),
    ))

pub invariant_of-self-2-clause-last : goal.invariant_of-self-2-clause-last
invariant_of-self-2-clause-last c = ap ends_well c.is_full.ensures.looked.1 ∙ c.args.self.now.last

pub returns-clause-takes : goal.returns-clause-takes
returns-clause-takes c =
    let d = c.args.self.now in
    let came = frame_came (goal.at.returns-clause-takes c).After-pop_known-envelope in
    let taken = came ∙ ap (λ f. frames_in (received d.frames) ++ f ∷ [])
    (sym (c.copy_from.ensures ∙ ap (λ e. e.frame) c.deref.ensures)) in
    let answered = ap answers_among c.is_full.ensures.looked.1 in
    record {
      open_before = rw c.if-self.false refl;
      owed_nothing = omega (arith, d.counted, ap bit c.if-self-2.false);
      taken = λ i. record (callee_rings_view d) {
        taken = taken i;
        answered = answered i;
        takes = one_more d.takes;
      };
    }
