use Rattle.std.proofs.Common.{rules}
use Rattle.scmi_words.specs.View.{callee_of}
use Rattle.scmi_words.proofs.CalleeCloses.{answers_allowed}
use Rattle.scmi_words.proofs.Counted.{answers_count}
use Rattle.scmi_words.proofs.callee_steps.hand_back.Goals as goal

pub compare_exchange-requires-clause-rule : goal.compare_exchange-requires-clause-rule
compare_exchange-requires-clause-rule g c = answers_allowed _ _ _ (callee_of c.args.seat.now)
    g.answer _ (search rules) (search rules) (search rules) (search rules) (search rules)

pub compare_exchange-requires-clause-counts : goal.compare_exchange-requires-clause-counts
compare_exchange-requires-clause-counts g c =
    answers_count 0 _ (callee_of c.args.seat.now) (search rules) 0 c.args.status
