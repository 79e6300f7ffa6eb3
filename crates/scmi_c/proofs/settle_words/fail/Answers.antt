use Rattle.std.proofs.Common.{rules, ◌≤◌, ◌+◌, length}
use Rattle.scmi_codec.specs.ChannelArea.{channel_words}
use Rattle.scmi_core.specs.Asked.{Refused}
use Rattle.scmi_c.specs.Kept.{Asked, IsAskable, asked_of}
use Rattle.scmi_c.proofs.Answering.{some-and}
use Rattle.scmi_c.proofs.Keeping.{effect-is, effect-said, kept-of}
use Rattle.scmi_c.proofs.WordReplies.{failed-room, failed-written, some-room}
use Rattle.scmi_c.proofs.settle_words.fail.Goals as goal

pub channel_words-requires : goal.channel_words-requires
channel_words-requires c =
    record {
      size = (kept-of (IsAskable c.desk.inside.held) c.desk.inside.exchange.frame
          c.desk.inside.waiting (search rules) c.desk.invariant.0.asked).size;
    }

pub refuse-requires-clause-effect : goal.refuse-requires-clause-effect
refuse-requires-clause-effect c =
    let desk = c.desk.inside in
    effect-is desk.held desk.exchange.frame desk.waiting c.effect_of-effect.result (search rules)
    c.desk.invariant.0.asked c.effect_of-effect.ensures

pub put_message-requires : goal.put_message-requires
put_message-requires c =
    let frame = c.desk.inside.exchange.frame in
    let waiting = c.desk.inside.waiting in
    let may = kept-of (IsAskable c.desk.inside.held) frame waiting
    (search rules) c.desk.invariant.0.asked in
    let wide : 1 + channel_words waiting.bytes ≤ length c.args.reply.now = search rules in
    record {
      room = failed-room frame c.in-Some.fault c.refuse.new.reply (length c.args.reply.now)
          (search rules)
          (some-room waiting.bytes (length c.args.reply.now) may.size wide);
    }

pub returns-clause-ok : goal.returns-clause-ok
returns-clause-ok c =
    let frame = c.desk.inside.exchange.frame in
    let waiting = c.desk.inside.waiting in
    let asked : Asked = asked_of frame waiting in
    some-and c.args.fault c.in-Some.fault _ (search rules)
    (some-and c.args.desk.now.asked asked _ (search rules)
    (record {
      answer = failed-written frame c.in-Some.fault
          c.refuse.new.reply c.put_message.result c.args.reply.now c.put_message.new.words
          (search rules) c.put_message.ensures.count c.put_message.ensures.written;
      event = search rules;
    }))

pub returns-clause-driven : goal.returns-clause-driven
returns-clause-driven c =
    some-and c.args.fault c.in-Some.fault _ (search rules)
    (some-and c.args.desk.now.asked (asked_of c.desk.inside.exchange.frame c.desk.inside.waiting) _
    (search rules) (search rules))

pub returns-clause-said : goal.returns-clause-said
returns-clause-said c =
    let held = c.desk.inside.held in
    let frame = c.desk.inside.exchange.frame in
    let waiting = c.desk.inside.waiting in
    some-and c.args.fault c.in-Some.fault _ (search rules)
    (some-and c.args.desk.now.asked (asked_of frame waiting) _ (search rules)
    (effect-said held frame waiting c.effect_of-effect.result (search rules)
    c.desk.invariant.0.asked c.effect_of-effect.ensures
    (λ change. Refused change c.in-Some.fault) c.args.desk.now.held _ (search rules)))
