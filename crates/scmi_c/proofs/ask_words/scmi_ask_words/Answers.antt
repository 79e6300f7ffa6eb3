use Rattle.std.proofs.Common.{rules, true, ◌≡◌, ◌≢◌, List, length, Option, Some, None, Ok, subst, sym, ap, ◌∙◌, arith}
use Rattle.scmi_codec.specs.ChannelArea.{channel_bytes}
use Rattle.scmi_codec.specs.declared.frame.Frame.{Frame}
use Rattle.scmi_plan.specs.Board.{channel_of}
use Rattle.scmi_plan.specs.declared.effect.Effect.{Effect}
use Rattle.scmi_core.proofs.Room.{valid_channel}
use Rattle.scmi_core.specs.Effect.{effect_after}
use Rattle.scmi_core.specs.declared.event.Event.{Event}
use Rattle.scmi_core.specs.declared.event.Event.TheVariants.{Command as Called}
use Rattle.scmi_c.specs.Aside.{IsHeldBack}
use Rattle.scmi_c.specs.Calls.{IsAskedAbout}
use Rattle.scmi_c.specs.Kept.{IsUnasked, Kept, aside_by, asked_by}
use Rattle.scmi_c.specs.Other.{is_other}
use Rattle.scmi_c.specs.Standing.{StandsAt, board_of}
use Rattle.scmi_c.specs.Words.{FitsWords, frame_in}
use Rattle.scmi_c.specs.declared.refusal.Refusal.TheVariants.{Other}
use Rattle.scmi_c.proofs.Areas.{sized}
use Rattle.scmi_c.proofs.Codes.{coded, held-back}
use Rattle.scmi_c.proofs.Keeping.{askable, asked-kept, of-effect}
use Rattle.scmi_c.proofs.ask_words.scmi_ask_words.Goals as goal

pub invariant_of-seat : goal.invariant_of-seat
invariant_of-seat c =
    let held = c.seat.inside.held in
    let slots = c.seat.inside.aside.slots in
    let frame : Frame = frame_in c.args.message.now in
    let about : IsAskedAbout held c.ask-given.new.held c.args.agent = search rules in
    let valid = valid_channel (board_of held) c.args.agent about.valid in
    let words = (channel_of (board_of held) c.args.agent).words in
    let bytes : c.bytes-bytes.result ≡ channel_bytes words = search rules in
    let two = sized words c.bytes-bytes.result valid.0 valid.1 bytes in
    let same : c.ask-given.new.exchange.frame ≡ frame = search rules in
    let is : c.ask-given.result ≡ Ok (Some c.in-Ok-Some.change) = search rules in
    let effect =
    of-effect (λ (effect : Option Effect). (h : List Event) → StandsAt held h
    → effect ≡ effect_after (board_of held) h (Called c.args.agent frame))
    c.ask-given.result (Some c.in-Ok-Some.change) is c.ask-given.ensures.effect in
    let free = of-effect (λ (effect : Option Effect). effect ≢ None
    → aside_by slots c.args.agent ≡ None) c.ask-given.result
    (Some c.in-Ok-Some.change) is c.ask-given.ensures.apart (λ none. absurd (cc)) in
    let asked =
    askable held c.ask-given.new.held c.args.agent c.bytes-bytes.result
    c.ask-given.new.exchange.frame (Some frame) c.in-Ok-Some.change
    c.begin.new.self about (ap (λ (f : Frame). Some f) (sym same)) effect c.begin.ensures.asked
    c.begin.ensures.agent c.begin.ensures.bytes c.begin.ensures.change two.0
    (omega (arith, two.1)) in (
      asked-kept c.ask-given.new.held c.ask-given.new.exchange.frame c.begin.new.self
          slots c.args.agent asked (c.ask-given.ensures.aside c.seat.invariant.0.aside)
          c.begin.ensures.agent free,
      c.seat.invariant.1,
    )

pub returns-in-Err-given-clause-asked : goal.returns-in-Err-given-clause-asked
returns-in-Err-given-clause-asked c =
    let inside = c.seat.inside in
    let view : Kept = record {
      held = inside.held;
      asked = asked_by inside.exchange.frame inside.waiting;
      aside = inside.aside.slots;
    } in
    let same : view ≡ c.in-Ok.desk.value = c.seat.view_is ∙ c.deref_mut-seat.ensures.value in
    held-back c.args.platform.now.value view
    (λ p. FitsWords c.args.agent (length c.args.message.now) (length c.args.reply.now) p.held
    × IsHeldBack p c.args.agent (frame_in c.args.message.now)) c.code.result
    c.ask-given.result c.in-Err-given.refusal (c.in-Ok.ensures.taken
    ∙ ap (λ (k : Kept). Some k) (sym same)) (subst IsUnasked (sym same) c.in-Ok.ensures.unasked)
    (search rules) c.code.ensures c.ask-given.ensures.held_back

pub returns-in-Err-given-clause-other : goal.returns-in-Err-given-clause-other
returns-in-Err-given-clause-other c =
    let inside = c.seat.inside in
    let view : Kept = record {
      held = inside.held;
      asked = asked_by inside.exchange.frame inside.waiting;
      aside = inside.aside.slots;
    } in
    let same : view ≡ c.in-Ok.desk.value = c.seat.view_is ∙ c.deref_mut-seat.ensures.value in
    let free : IsUnasked view = subst IsUnasked (sym same) c.in-Ok.ensures.unasked in
    coded c.args.platform.now.value view
    (λ p. IsUnasked p × FitsWords c.args.agent (length c.args.message.now) (length c.args.reply.now)
    p.held × (is_other (board_of p.held) (frame_in c.args.message.now) ≡ true)
    × (¬ (IsHeldBack p c.args.agent (frame_in c.args.message.now)))) c.code.result
    c.ask-given.result c.in-Err-given.refusal Other
    (c.in-Ok.ensures.taken ∙ ap (λ (k : Kept). Some k) (sym same)) (search rules) c.code.ensures (
      λ err. let it = c.ask-given.ensures.other.0 err in
          (free, it.0, it.1, it.2),
      λ all. c.ask-given.ensures.other.1 (all.1, all.2, all.3),
    )
