use Rattle.std.proofs.Common.{rules, true, ◌≡◌, ◌≢◌, List, length, Option, Some, None, Ok, IsSomeAnd, subst, sym, ap, ◌∙◌, arith}
use Rattle.scmi_codec.specs.ChannelArea.{channel_waiting}
use Rattle.scmi_plan.specs.Board.{channel_of}
use Rattle.scmi_plan.specs.declared.effect.Effect.{Effect}
use Rattle.scmi_core.proofs.Room.{valid_channel}
use Rattle.scmi_core.specs.Effect.{effect_after}
use Rattle.scmi_core.specs.declared.event.Event.{Event}
use Rattle.scmi_core.specs.declared.event.Event.TheVariants.{Command as Called}
use Rattle.scmi_c.specs.Aside.{IsHeldBack}
use Rattle.scmi_c.specs.Calls.{ChangesNothing, IsAskedAbout}
use Rattle.scmi_c.specs.Channel.{HasSize}
use Rattle.scmi_c.specs.Kept.{IsUnasked, Kept, aside_by, asked_by}
use Rattle.scmi_c.specs.Other.{is_other}
use Rattle.scmi_c.specs.Standing.{StandsAt, board_of}
use Rattle.scmi_c.specs.declared.refusal.Refusal.TheVariants.{Other}
use Rattle.scmi_c.proofs.Areas.{sized}
use Rattle.scmi_c.proofs.Codes.{coded, held-back}
use Rattle.scmi_c.proofs.Keeping.{askable, asked-kept, of-effect, some-map}
use Rattle.scmi_c.proofs.ask_in.scmi_ask_in.Goals as goal

pub invariant_of-seat : goal.invariant_of-seat
invariant_of-seat c =
    let held = c.seat.inside.held in
    let slots = c.seat.inside.aside.slots in
    let about : IsAskedAbout held c.ask_sized-given.new.held c.args.agent = search rules in
    let valid = valid_channel (board_of held) c.args.agent about.valid in
    let size : HasSize c.args.agent (length c.args.area.now) held = search rules in
    let same : length c.ask_sized-given.new.area ≡ length c.args.area.now = search rules in
    let two = sized (channel_of (board_of held) c.args.agent).words
    (length c.ask_sized-given.new.area) valid.0 valid.1 (same ∙ size.1) in
    let is : c.ask_sized-given.result ≡ Ok (Some c.in-Ok-Some.change) = search rules in
    let effect =
    of-effect (λ (effect : Option Effect).
    IsSomeAnd (channel_waiting c.args.area.now) (λ frame. (h : List Event) → StandsAt held h
    → effect ≡ effect_after (board_of held) h (Called c.args.agent frame)))
    c.ask_sized-given.result (Some c.in-Ok-Some.change) is c.ask_sized-given.ensures.effect in
    let free = of-effect (λ (effect : Option Effect). effect ≢ None
    → aside_by slots c.args.agent ≡ None) c.ask_sized-given.result
    (Some c.in-Ok-Some.change) is c.ask_sized-given.ensures.apart (λ none. absurd (cc)) in
    let asked =
    askable held c.ask_sized-given.new.held c.args.agent (length c.ask_sized-given.new.area)
    c.ask_sized-given.new.exchange.frame (channel_waiting c.args.area.now) c.in-Ok-Some.change
    c.begin.new.self about (search rules) effect c.begin.ensures.asked c.begin.ensures.agent
    c.begin.ensures.bytes c.begin.ensures.change two.0 (omega (arith, two.1)) in (
      asked-kept c.ask_sized-given.new.held c.ask_sized-given.new.exchange.frame c.begin.new.self
          slots c.args.agent asked (c.ask_sized-given.ensures.aside c.seat.invariant.0.aside)
          c.begin.ensures.agent free,
      c.seat.invariant.1,
    )

pub returns-in-Ok-None-clause-nothing : goal.returns-in-Ok-None-clause-nothing
returns-in-Ok-None-clause-nothing c = λ done.
    let inside = c.seat.inside in
    let held = inside.held in
    let view : Kept = record {
      held = held;
      asked = asked_by inside.exchange.frame inside.waiting;
      aside = inside.aside.slots;
    } in
    let same : view ≡ c.in-Ok.desk.value = c.seat.view_is ∙ c.deref_mut-seat.ensures.value in
    let size : HasSize c.args.agent (length c.args.area.now) held = search rules in
    let is : c.ask_sized-given.result ≡ Ok None = search rules in
    let effect =
    of-effect (λ (effect : Option Effect).
    IsSomeAnd (channel_waiting c.args.area.now) (λ frame. (h : List Event) → StandsAt held h
    → effect ≡ effect_after (board_of held) h (Called c.args.agent frame)))
    c.ask_sized-given.result None is c.ask_sized-given.ensures.effect in
    subst (λ (o : Option Kept).
    IsSomeAnd o (λ p. IsSomeAnd (channel_waiting c.args.area.now) (λ frame. (h : List Event)
    → StandsAt p.held h → ChangesNothing (board_of p.held) c.args.agent frame h)))
    (sym (c.in-Ok.ensures.taken ∙ ap (λ (k : Kept). Some k) (sym same)))
    (some-map (channel_waiting c.args.area.now) (λ frame. (h : List Event) → StandsAt held h
    → None ≡ effect_after (board_of held) h (Called c.args.agent frame))
    (λ frame. (h : List Event) → StandsAt held h → ChangesNothing
    (board_of held) c.args.agent frame h) (λ frame none h at. (size.0, sym (none h at))) effect)

pub returns-in-Err-given-clause-asked : goal.returns-in-Err-given-clause-asked
returns-in-Err-given-clause-asked c =
    let inside = c.seat.inside in
    let view : Kept = record {
      held = inside.held;
      asked = asked_by inside.exchange.frame inside.waiting;
      aside = inside.aside.slots;
    } in
    let same : view ≡ c.in-Ok.desk.value = c.seat.view_is ∙ c.deref_mut-seat.ensures.value in
    held-back c.args.platform.now.value view
    (λ p. HasSize c.args.agent (length c.args.area.now) p.held
    × IsSomeAnd (channel_waiting c.args.area.now) (IsHeldBack p c.args.agent)) c.code.result
    c.ask_sized-given.result c.in-Err-given.refusal (c.in-Ok.ensures.taken
    ∙ ap (λ (k : Kept). Some k) (sym same)) (subst IsUnasked (sym same) c.in-Ok.ensures.unasked)
    (search rules) c.code.ensures c.ask_sized-given.ensures.held_back

pub returns-in-Err-given-clause-other : goal.returns-in-Err-given-clause-other
returns-in-Err-given-clause-other c =
    let inside = c.seat.inside in
    let view : Kept = record {
      held = inside.held;
      asked = asked_by inside.exchange.frame inside.waiting;
      aside = inside.aside.slots;
    } in
    let same : view ≡ c.in-Ok.desk.value = c.seat.view_is ∙ c.deref_mut-seat.ensures.value in
    let free : IsUnasked view = subst IsUnasked (sym same) c.in-Ok.ensures.unasked in
    coded c.args.platform.now.value view
    (λ p. IsUnasked p × HasSize c.args.agent (length c.args.area.now) p.held × IsSomeAnd
    (channel_waiting c.args.area.now) (λ frame. (is_other (board_of p.held) frame ≡ true)
    × (¬ (IsHeldBack p c.args.agent frame)))) c.code.result
    c.ask_sized-given.result c.in-Err-given.refusal Other
    (c.in-Ok.ensures.taken ∙ ap (λ (k : Kept). Some k) (sym same)) (search rules) c.code.ensures (
      λ err. let it = c.ask_sized-given.ensures.other.0 err in
          (free, it.0, it.1),
      λ all. c.ask_sized-given.ensures.other.1 (all.1, all.2),
    )
