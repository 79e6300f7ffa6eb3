use Rattle.std.proofs.Common.{rules}
use Rattle.scmi_words.specs.View.{caller_of}
use Rattle.scmi_words.proofs.CallerCloses.{withdraws_allowed}
use Rattle.scmi_words.proofs.Counted.{withdraws_count}
use Rattle.scmi_words.proofs.caller_steps.withdraw.Goals as goal

pub compare_exchange-requires-clause-rule : goal.compare_exchange-requires-clause-rule
compare_exchange-requires-clause-rule c =
    withdraws_allowed _ _ _ (caller_of c.args.seat.now) (search rules) (search rules)

pub compare_exchange-requires-clause-counts : goal.compare_exchange-requires-clause-counts
compare_exchange-requires-clause-counts c =
    withdraws_count 0 _ (caller_of c.args.seat.now) (search rules)
