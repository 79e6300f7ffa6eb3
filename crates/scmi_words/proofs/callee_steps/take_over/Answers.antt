use Rattle.std.proofs.Common.{rules}
use Rattle.scmi_words.specs.View.{callee_of}
use Rattle.scmi_words.proofs.CalleeSteps.{takes_allowed}
use Rattle.scmi_words.proofs.Counted.{takes_count}
use Rattle.scmi_words.proofs.callee_steps.take_over.Goals as goal

pub compare_exchange-requires-clause-rule : goal.compare_exchange-requires-clause-rule
compare_exchange-requires-clause-rule c =
    takes_allowed _ _ _ (callee_of c.args.seat.now) (search rules)

pub compare_exchange-requires-clause-counts : goal.compare_exchange-requires-clause-counts
compare_exchange-requires-clause-counts c =
    takes_count 0 _ (callee_of c.args.seat.now) (search rules) 0
