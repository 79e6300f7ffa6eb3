use Rattle.std.proofs.Common.{rules, ◌≡◌, ◌≤◌, ℕ, length, subst, ap}
use Rattle.scmi_codec.specs.ChannelArea.{channel_words}
use Rattle.scmi_plan.specs.Board.{channel_of}
use Rattle.scmi_core.specs.Asked.{Made}
use Rattle.scmi_core.specs.declared.event.Event.TheVariants.{Command as Called}
use Rattle.scmi_c.specs.Kept.{Asked, IsAskable, Kept, asked_of}
use Rattle.scmi_c.specs.Standing.{Held, board_of}
use Rattle.scmi_c.proofs.Answering.{some-and}
use Rattle.scmi_c.proofs.Areas.{committed-in}
use Rattle.scmi_c.proofs.Keeping.{effect-is, effect-said, kept-of, rate-clock}
use Rattle.scmi_c.proofs.settle.commit.Goals as goal

pub commit-answered-requires-clause-effect : goal.commit-answered-requires-clause-effect
commit-answered-requires-clause-effect c =
    let desk = c.desk.inside in
    effect-is desk.held desk.exchange.frame desk.waiting c.effect_of-effect.result (search rules)
    c.desk.invariant.0.asked c.effect_of-effect.ensures

pub returns-clause-ok : goal.returns-clause-ok
returns-clause-ok c =
    let frame = c.desk.inside.exchange.frame in
    let waiting = c.desk.inside.waiting in
    let asked : Asked = asked_of frame waiting in
    let same : c.desk.inside.held ≡ c.args.desk.now.held =
    ap (λ (k : Kept). k.held) c.desk.view_is in
    let may : IsAskable c.args.desk.now.held asked =
    subst (λ (p : Held). IsAskable p asked) same (kept-of
    (IsAskable c.desk.inside.held) frame waiting (search rules) c.desk.invariant.0.asked) in
    let size : waiting.bytes ≡ length c.args.area.now = search rules in
    some-and c.args.desk.now.asked asked _ (search rules)
    (record {
      answer = λ h at.
          committed-in (board_of c.args.desk.now.held) waiting.agent h c.args.area.now
          c.write_whole.new.area frame _ c.commit-answered.new.reply
          (search rules)
          (subst (λ (n : ℕ). (channel_of (board_of c.args.desk.now.held) waiting.agent).words
          ≤ channel_words n) size may.words)
          (search rules) c.write_whole.ensures.reply c.write_whole.ensures.error;
      event = search rules;
    })

pub returns-clause-driven : goal.returns-clause-driven
returns-clause-driven c =
    some-and c.args.desk.now.asked (asked_of c.desk.inside.exchange.frame c.desk.inside.waiting) _
    (search rules) (search rules)

pub returns-clause-said : goal.returns-clause-said
returns-clause-said c =
    let held = c.desk.inside.held in
    let frame = c.desk.inside.exchange.frame in
    let waiting = c.desk.inside.waiting in
    some-and c.args.desk.now.asked (asked_of frame waiting) _ (search rules)
    (effect-said held frame waiting c.effect_of-effect.result (search rules)
    c.desk.invariant.0.asked c.effect_of-effect.ensures Made c.args.desk.now.held _ (search rules))

pub returns-clause-clock : goal.returns-clause-clock
returns-clause-clock c =
    let frame = c.desk.inside.exchange.frame in
    let waiting = c.desk.inside.waiting in
    some-and c.args.desk.now.asked (asked_of frame waiting) _ (search rules)
    (rate-clock c.desk.inside.held frame waiting c.effect_of-effect.result (search rules)
    c.desk.invariant.0.asked c.effect_of-effect.ensures _ (Called waiting.agent frame)
    c.commit-answered.ensures.clock c.commit-answered.ensures.event)
