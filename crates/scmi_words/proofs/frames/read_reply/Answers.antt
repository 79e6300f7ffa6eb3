use Rattle.std.proofs.Common.{rules}
use Rattle.scmi_words.proofs.Loads.{response_after}
use Rattle.scmi_words.proofs.frames.read_reply.Goals as goal

pub read_response-requires : goal.read_response-requires
read_response-requires g c = let r = response_after
    c.args.seat.now c.load_answer_word-length.new.seat c.load_answer_word-header.new.seat g.given
    c.load_answer_word-length.result c.load_answer_word-header.result
    c.load_answer_word-length.ensures.view c.load_answer_word-header.ensures.view (search rules)
    c.load_answer_word-length.ensures.value c.load_answer_word-header.ensures.value in (
      (search rules, (search rules, search rules, search rules), r.0, search rules),
      (r.1, (r.2, search rules)),
    )

pub read_other_response-requires : goal.read_other_response-requires
read_other_response-requires g c = let r = response_after
    c.args.seat.now c.load_answer_word-length.new.seat c.load_answer_word-header.new.seat g.given
    c.load_answer_word-length.result c.load_answer_word-header.result
    c.load_answer_word-length.ensures.view c.load_answer_word-header.ensures.view (search rules)
    c.load_answer_word-length.ensures.value c.load_answer_word-header.ensures.value in
    ((search rules, (search rules, search rules, search rules), r.0, search rules), (r.1, r.2))
