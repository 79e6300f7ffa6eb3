use Rattle.std.proofs.Common.{sym, subst, ◌∙◌}
use Rattle.scmi_c.specs.Kept.{IsFree, Kept, asked_by}
use Rattle.scmi_c.proofs.Keeping.{free-kept}
use Rattle.scmi_c.proofs.answer_words.scmi_answer_words.Goals as goal

pub invariant_of-seat : goal.invariant_of-seat
invariant_of-seat c =
    let inside = c.seat.inside in
    let view : Kept = record {
      held = inside.held;
      asked = asked_by inside.exchange.frame inside.waiting;
      aside = inside.aside.slots;
    } in
    let free : IsFree view =
    subst IsFree (sym (c.seat.view_is ∙ c.deref_mut-seat.ensures.value)) c.in-Ok.ensures.free in (
      free-kept c.answer.new.held inside.exchange.frame c.answer.new.exchange.frame inside.waiting
          inside.aside.slots free.unasked free.none,
      c.seat.invariant.1,
    )
