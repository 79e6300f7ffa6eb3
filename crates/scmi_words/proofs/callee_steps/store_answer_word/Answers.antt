use Rattle.std.proofs.Common.{rules}
use Rattle.scmi_words.specs.View.{callee_of}
use Rattle.scmi_words.proofs.CalleeSteps.{stores_allowed}
use Rattle.scmi_words.proofs.Counted.{callee_stores_count}
use Rattle.scmi_words.proofs.callee_steps.store_answer_word.Goals as goal

pub store-requires-clause-rule : goal.store-requires-clause-rule
store-requires-clause-rule c = stores_allowed _ _ _ (callee_of c.args.seat.now) _ _ (search rules)
    (search rules) (search rules) (search rules) (search rules)

pub store-requires-clause-counts : goal.store-requires-clause-counts
store-requires-clause-counts c =
    callee_stores_count 0 _ (callee_of c.args.seat.now) (search rules) 0 _
