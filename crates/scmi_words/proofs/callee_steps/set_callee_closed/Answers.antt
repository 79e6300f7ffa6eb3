use Rattle.std.proofs.Common.{rules}
use Rattle.scmi_words.specs.View.{callee_of}
use Rattle.scmi_words.proofs.CalleeCloses.{closes_allowed}
use Rattle.scmi_words.proofs.Counted.{callee_closes_count}
use Rattle.scmi_words.proofs.callee_steps.set_callee_closed.Goals as goal

pub fetch_or-requires-clause-rule : goal.fetch_or-requires-clause-rule
fetch_or-requires-clause-rule c =
    closes_allowed _ _ _ (callee_of c.args.seat.now) (search rules) (search rules)

pub fetch_or-requires-clause-counts : goal.fetch_or-requires-clause-counts
fetch_or-requires-clause-counts c =
    callee_closes_count 0 _ (callee_of c.args.seat.now) (search rules) 0
