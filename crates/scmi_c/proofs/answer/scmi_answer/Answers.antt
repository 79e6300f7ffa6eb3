use Rattle.std.proofs.Common.{rules, ◌≡◌, ◌≢◌, ◌↔◌, Option, Some, None, Err, ap, sym, subst, ◌∙◌}
use Rattle.scmi_codec.specs.Area.{frame_waiting}
use Rattle.scmi_codec.specs.ChannelArea.{channel_waiting}
use Rattle.scmi_codec.specs.declared.frame.Frame.{Frame}
use Rattle.scmi_c.specs.Kept.{IsFree, Kept, asked_by}
use Rattle.scmi_c.specs.Standing.{LacksAgent}
use Rattle.scmi_c.specs.declared.refusal.Refusal.TheVariants.{NoAgent}
use Rattle.scmi_c.proofs.Codes.{given-no-agent}
use Rattle.scmi_c.proofs.Keeping.{free-kept}
use Rattle.scmi_c.proofs.answer.scmi_answer.Goals as goal

pub invariant_of-seat : goal.invariant_of-seat
invariant_of-seat c =
    let inside = c.seat.inside in
    let view : Kept = record {
      held = inside.held;
      asked = asked_by inside.exchange.frame inside.waiting;
      aside = inside.aside.slots;
    } in
    let free : IsFree view =
    subst IsFree (sym (c.seat.view_is ∙ c.deref_mut-seat.ensures.value)) c.in-Ok.ensures.free in (
      free-kept c.answer-given.new.held inside.exchange.frame c.answer-given.new.exchange.frame
          inside.waiting inside.aside.slots free.unasked free.none,
      c.seat.invariant.1,
    )

pub returns-clause-no_agent : goal.returns-clause-no_agent
returns-clause-no_agent c =
    let inside = c.seat.inside in
    let view : Kept = record {
      held = inside.held;
      asked = asked_by inside.exchange.frame inside.waiting;
      aside = inside.aside.slots;
    } in
    let same : view ≡ c.in-Ok.desk.value = c.seat.view_is ∙ c.deref_mut-seat.ensures.value in
    let free : IsFree view = subst IsFree (sym same) c.in-Ok.ensures.free in
    let waits : channel_waiting c.args.area.now ≡ frame_waiting c.args.area.now =
    c.see_whole.ensures in
    let all : (c.answer-given.result ≡ Err NoAgent)
    ↔ ((frame_waiting c.args.area.now ≢ None) × LacksAgent c.args.agent inside.held) =
    subst (λ (o : Option Frame). (c.answer-given.result ≡ Err NoAgent) ↔ ((o ≢ None)
    × LacksAgent c.args.agent inside.held)) waits c.answer-given.ensures.no_agent in
    given-no-agent c.args.platform.now.value view (λ p. IsFree p × (frame_waiting c.args.area.now
    ≢ None) × LacksAgent c.args.agent p.held) c.code.result c.answer-given.result
    (c.in-Ok.ensures.taken ∙ ap (λ (k : Kept). Some k) (sym same)) c.code.ensures
    (λ err. let two = all.0 err in (free, two.0, two.1), λ three. all.1 (three.1, three.2))
