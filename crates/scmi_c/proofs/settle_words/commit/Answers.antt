use Rattle.std.proofs.Common.{rules, List, ◌≡◌, ◌≤◌, ◌+◌, length, refl, subst, ap, arith}
use Rattle.scmi_codec.specs.ChannelArea.{channel_words}
use Rattle.scmi_codec.specs.Header.{header_word}
use Rattle.scmi_core.specs.Asked.{Made}
use Rattle.scmi_core.specs.declared.event.Event.{Event}
use Rattle.scmi_core.specs.declared.event.Event.TheVariants.{Command as Called}
use Rattle.scmi_c.specs.Kept.{Asked, IsAskable, Kept, asked_of}
use Rattle.scmi_c.specs.Standing.{Held, board_of}
use Rattle.scmi_c.proofs.Answering.{some-and}
use Rattle.scmi_c.proofs.Keeping.{effect-is, effect-said, effect-some, kept-of, rate-clock}
use Rattle.scmi_c.proofs.WordReplies.{asked-replied, reply-room, written-answer}
use Rattle.scmi_c.proofs.settle_words.commit.Goals as goal

pub channel_words-requires : goal.channel_words-requires
channel_words-requires c =
    record {
      size = (kept-of (IsAskable c.desk.inside.held) c.desk.inside.exchange.frame
          c.desk.inside.waiting (search rules) c.desk.invariant.0.asked).size;
    }

pub commit-requires-clause-effect : goal.commit-requires-clause-effect
commit-requires-clause-effect c =
    let desk = c.desk.inside in
    effect-is desk.held desk.exchange.frame desk.waiting c.effect_of-effect.result (search rules)
    c.desk.invariant.0.asked c.effect_of-effect.ensures

pub put_message-requires : goal.put_message-requires
put_message-requires c =
    let frame = c.desk.inside.exchange.frame in
    let waiting = c.desk.inside.waiting in
    let asked : Asked = asked_of frame waiting in
    let may = kept-of (IsAskable c.desk.inside.held) frame waiting
    (search rules) c.desk.invariant.0.asked in
    let board = board_of c.desk.inside.held in
    let few = may.words in
    let wide : 1 + channel_words waiting.bytes ≤ length c.args.reply.now = search rules in
    let h : List Event = c.stand.ensures.0 in
    record {
      room = reply-room board waiting.agent h frame c.commit.result c.commit.new.reply
          (length c.args.reply.now)
          (search rules) (omega (arith, few, wide)) (search rules)
          (asked-replied board waiting.agent h frame
          (effect-some _ may.change (may.effect h c.stand.ensures.1)));
    }

pub returns-clause-ok : goal.returns-clause-ok
returns-clause-ok c =
    let frame = c.desk.inside.exchange.frame in
    let waiting = c.desk.inside.waiting in
    let asked : Asked = asked_of frame waiting in
    let same : c.desk.inside.held ≡ c.args.desk.now.held =
    ap (λ (k : Kept). k.held) c.desk.view_is in
    let may : IsAskable c.args.desk.now.held asked =
    subst (λ (p : Held). IsAskable p asked) same (kept-of
    (IsAskable c.desk.inside.held) frame waiting (search rules) c.desk.invariant.0.asked) in
    let board = board_of c.args.desk.now.held in
    some-and c.args.desk.now.asked asked _ (search rules)
    (record {
      answer = λ h at.
          written-answer board waiting.agent h frame c.commit.result c.commit.new.reply
          (header_word c.commit.new.reply.header) c.put_message.result c.args.reply.now
          c.put_message.new.words
          (search rules)
          (asked-replied board waiting.agent h frame (effect-some _ may.change (may.effect h at)))
          (λ is. refl)
          c.put_message.ensures.count c.put_message.ensures.written;
      event = search rules;
    })

pub returns-clause-driven : goal.returns-clause-driven
returns-clause-driven c =
    some-and c.args.desk.now.asked (asked_of c.desk.inside.exchange.frame c.desk.inside.waiting) _
    (search rules) (search rules)

pub returns-clause-said : goal.returns-clause-said
returns-clause-said c =
    let held = c.desk.inside.held in
    let frame = c.desk.inside.exchange.frame in
    let waiting = c.desk.inside.waiting in
    some-and c.args.desk.now.asked (asked_of frame waiting) _ (search rules)
    (effect-said held frame waiting c.effect_of-effect.result (search rules)
    c.desk.invariant.0.asked c.effect_of-effect.ensures Made c.args.desk.now.held _ (search rules))

pub returns-clause-clock : goal.returns-clause-clock
returns-clause-clock c =
    let frame = c.desk.inside.exchange.frame in
    let waiting = c.desk.inside.waiting in
    some-and c.args.desk.now.asked (asked_of frame waiting) _ (search rules)
    (rate-clock c.desk.inside.held frame waiting c.effect_of-effect.result (search rules)
    c.desk.invariant.0.asked c.effect_of-effect.ensures _ (Called waiting.agent frame)
    c.commit.ensures.clock c.commit.ensures.event)
