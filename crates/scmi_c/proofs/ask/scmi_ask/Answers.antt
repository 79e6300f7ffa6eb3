use Rattle.std.proofs.Common.{rules, ◌≡◌, ◌≢◌, ◌↔◌, List, Option, Some, None, Ok, Err, IsSomeAnd, subst, sym, ap, refl, ◌∙◌}
use Rattle.scmi_codec.specs.Area.{frame_waiting}
use Rattle.scmi_codec.specs.ChannelArea.{channel_waiting}
use Rattle.scmi_codec.specs.declared.frame.Frame.{Frame}
use Rattle.scmi_plan.specs.declared.effect.Effect.{Effect}
use Rattle.scmi_core.proofs.Room.{valid_channel}
use Rattle.scmi_core.specs.Effect.{effect_after}
use Rattle.scmi_core.specs.declared.event.Event.{Event}
use Rattle.scmi_core.specs.declared.event.Event.TheVariants.{Command as Called}
use Rattle.scmi_c.specs.Aside.{IsHeldBack}
use Rattle.scmi_c.specs.Calls.{IsAskedAbout}
use Rattle.scmi_c.specs.Kept.{IsUnasked, Kept, aside_by, asked_by}
use Rattle.scmi_c.specs.Other.{IsOther}
use Rattle.scmi_c.specs.Standing.{LacksAgent, StandsAt, board_of}
use Rattle.scmi_c.specs.declared.refusal.Refusal.TheVariants.{Asked, NoAgent, Other}
use Rattle.scmi_c.proofs.Codes.{coded, coded-unasked, held-back}
use Rattle.scmi_c.proofs.Keeping.{askable, asked-kept, of-effect}
use Rattle.scmi_c.proofs.ask.scmi_ask.Goals as goal

pub invariant_of-seat : goal.invariant_of-seat
invariant_of-seat c =
    let held = c.seat.inside.held in
    let slots = c.seat.inside.aside.slots in
    let about : IsAskedAbout held c.ask-given.new.held c.args.agent = search rules in
    let is : c.ask-given.result ≡ Ok (Some c.in-Ok-Some.change) = search rules in
    let effect =
    of-effect (λ (effect : Option Effect).
    IsSomeAnd (channel_waiting c.args.area.now) (λ frame. (h : List Event) → StandsAt held h
    → effect ≡ effect_after (board_of held) h (Called c.args.agent frame)))
    c.ask-given.result (Some c.in-Ok-Some.change) is c.ask-given.ensures.effect in
    let free = of-effect (λ (effect : Option Effect). effect ≢ None
    → aside_by slots c.args.agent ≡ None) c.ask-given.result
    (Some c.in-Ok-Some.change) is c.ask-given.ensures.apart (λ none. absurd (cc)) in
    let asked =
    askable held c.ask-given.new.held c.args.agent 284 c.ask-given.new.exchange.frame
    (channel_waiting c.args.area.now) c.in-Ok-Some.change
    c.begin.new.self about (search rules) effect c.begin.ensures.asked c.begin.ensures.agent
    c.begin.ensures.bytes c.begin.ensures.change
    refl (valid_channel (board_of held) c.args.agent about.valid).1 in (
      asked-kept c.ask-given.new.held c.ask-given.new.exchange.frame c.begin.new.self
          slots c.args.agent asked (c.ask-given.ensures.aside c.seat.invariant.0.aside)
          c.begin.ensures.agent free,
      c.seat.invariant.1,
    )

pub returns-in-Err-given-clause-no_agent : goal.returns-in-Err-given-clause-no_agent
returns-in-Err-given-clause-no_agent c =
    let inside = c.seat.inside in
    let view : Kept = record {
      held = inside.held;
      asked = asked_by inside.exchange.frame inside.waiting;
      aside = inside.aside.slots;
    } in
    let same : view ≡ c.in-Ok.desk.value = c.seat.view_is ∙ c.deref_mut-seat.ensures.value in
    let waits : channel_waiting c.args.area.now ≡ frame_waiting c.args.area.now =
    c.see_whole.ensures in
    let Lacks : Option Frame → Type 0 = λ o. (o ≢ None) × LacksAgent c.args.agent view.held in
    let all : (c.ask-given.result ≡ Err NoAgent) ↔ Lacks (frame_waiting c.args.area.now) =
    subst (λ (o : Option Frame). (c.ask-given.result ≡ Err NoAgent) ↔ Lacks o) waits
    c.ask-given.ensures.no_agent in
    let free : IsUnasked view = subst IsUnasked (sym same) c.in-Ok.ensures.unasked in
    coded c.args.platform.now.value view
    (λ p. IsUnasked p × (frame_waiting c.args.area.now ≢ None) × LacksAgent c.args.agent p.held)
    c.code.result c.ask-given.result c.in-Err-given.refusal NoAgent
    (c.in-Ok.ensures.taken ∙ ap (λ (k : Kept). Some k) (sym same)) (search rules) c.code.ensures
    (λ err. let it = all.0 err in (free, it.0, it.1), λ three. all.1 (three.1, three.2))

pub returns-in-Err-given-clause-asked : goal.returns-in-Err-given-clause-asked
returns-in-Err-given-clause-asked c =
    let inside = c.seat.inside in
    let view : Kept = record {
      held = inside.held;
      asked = asked_by inside.exchange.frame inside.waiting;
      aside = inside.aside.slots;
    } in
    let same : view ≡ c.in-Ok.desk.value = c.seat.view_is ∙ c.deref_mut-seat.ensures.value in
    let waits : channel_waiting c.args.area.now ≡ frame_waiting c.args.area.now =
    c.see_whole.ensures in
    let all : (c.ask-given.result ≡ Err Asked)
    ↔ IsSomeAnd (frame_waiting c.args.area.now) (IsHeldBack view c.args.agent) =
    subst (λ (o : Option Frame). (c.ask-given.result ≡ Err Asked)
    ↔ IsSomeAnd o (IsHeldBack view c.args.agent)) waits c.ask-given.ensures.held_back in
    held-back c.args.platform.now.value view
    (λ p. IsSomeAnd (frame_waiting c.args.area.now) (IsHeldBack p c.args.agent)) c.code.result
    c.ask-given.result c.in-Err-given.refusal
    (c.in-Ok.ensures.taken ∙ ap (λ (k : Kept). Some k) (sym same))
    (subst IsUnasked (sym same) c.in-Ok.ensures.unasked) (search rules) c.code.ensures all

pub returns-in-Err-given-clause-other : goal.returns-in-Err-given-clause-other
returns-in-Err-given-clause-other c =
    let inside = c.seat.inside in
    let view : Kept = record {
      held = inside.held;
      asked = asked_by inside.exchange.frame inside.waiting;
      aside = inside.aside.slots;
    } in
    let same : view ≡ c.in-Ok.desk.value = c.seat.view_is ∙ c.deref_mut-seat.ensures.value in
    let waits : channel_waiting c.args.area.now ≡ frame_waiting c.args.area.now =
    c.see_whole.ensures in
    let all : (c.ask-given.result ≡ Err Other) ↔ IsSomeAnd (frame_waiting c.args.area.now)
    (λ frame. IsOther c.args.agent frame view.held × (¬ (IsHeldBack view c.args.agent frame))) =
    subst (λ (o : Option Frame). (c.ask-given.result ≡ Err Other) ↔ IsSomeAnd o
    (λ frame. IsOther c.args.agent frame view.held × (¬ (IsHeldBack view c.args.agent frame))))
    waits c.ask-given.ensures.other in
    coded-unasked c.args.platform.now.value view
    (λ p. IsSomeAnd (frame_waiting c.args.area.now) (λ frame.
    IsOther c.args.agent frame p.held × (¬ (IsHeldBack p c.args.agent frame))))
    c.code.result c.ask-given.result c.in-Err-given.refusal Other
    (c.in-Ok.ensures.taken ∙ ap (λ (k : Kept). Some k) (sym same))
    (subst IsUnasked (sym same) c.in-Ok.ensures.unasked) (search rules) c.code.ensures all
