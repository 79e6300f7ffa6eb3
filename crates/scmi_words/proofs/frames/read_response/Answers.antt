use Rattle.std.proofs.Common.{rules, arith, ◌≡◌, ◌+◌, ◌<◌, length, get_or, sym, ap, ◌∙◌}
use Rattle.std.proofs.lemmas.List.{take_all}
use Rattle.scmi_codec.specs.Header.{header_of, header_word}
use Rattle.scmi_codec.specs.declared.message.Message.{Message}
use Rattle.scmi_codec.specs.declared.frame.Frame.TheVariants.{Good}
use Rattle.scmi_words.specs.Area.{frame_words, IsValidMessage}
use Rattle.scmi_words.specs.View.{caller_of}
use Rattle.scmi_words.specs.CallerSteps.{caller_after, answer_area}
use Rattle.scmi_words.proofs.Loads.{half_is, one_over_long, payload_more, word_at}
use Rattle.scmi_words.proofs.frames.read_response.Goals as goal

pub loop-i-preserved : goal.loop-i-preserved
loop-i-preserved g c =
    let inv = c.loop-i.invariant in
    let h = caller_of c.args.seat.now in
    let m : Message = g.given in
    let area : answer_area h ≡ frame_words (Good m) = search rules in
    let lt : c.loop-i.i < length m.payload.items = omega arith in
    let word : c.load_answer_word.result ≡ get_or (frame_words (Good m)) (2 + c.loop-i.i) 0 =
    word_at c.loop-i.seat (caller_after h c.loop-i.i) m _ (4 + c.loop-i.i) (2 + c.loop-i.i)
    (half_is c.args.seat.now c.loop-i.seat (caller_after h c.loop-i.i) inv.0) area
    c.load_answer_word.ensures.value (omega arith) (omega arith) in (
      search rules,
      one_over_long c.loop-i.message.payload.items c.deref_mut.result.now c.loop-i.i
          c.load_answer_word.result c.args.count c.deref_mut.ensures.value inv.1,
      payload_more m c.loop-i.message.payload.items c.deref_mut.result.now c.loop-i.i
          c.load_answer_word.result c.deref_mut.ensures.value (omega arith) lt inv.2 word,
      inv.3,
    )

pub returns-clause-value : goal.returns-clause-value
returns-clause-value g c =
    let inv = c.loop-i.invariant in
    let m : Message = g.given in
    let valid : IsValidMessage m = search rules in
    let all : c.loop-i.message.payload.items ≡ m.payload.items =
    sym (take_all c.loop-i.i c.loop-i.message.payload.items (omega arith)) ∙ inv.2
    ∙ take_all c.loop-i.i m.payload.items (omega arith) in
    let head : c.args.header ≡ header_word m.header = search rules in
    let fields = inv.3 ∙ (ap header_of head ∙ valid.header) in
    λ j. record { header = fields j; payload = record { items = all j } }
