use Rattle.std.proofs.Common.{rules}
use Rattle.scmi_words.specs.View.{caller_of}
use Rattle.scmi_words.proofs.CallerSteps.{stores_allowed}
use Rattle.scmi_words.proofs.Counted.{stores_count}
use Rattle.scmi_words.proofs.caller_steps.store_frame_word.Goals as goal

pub store-requires-clause-rule : goal.store-requires-clause-rule
store-requires-clause-rule c = stores_allowed _ _ _ (caller_of c.args.seat.now) _ _ (search rules)
    (search rules) (search rules) (search rules) (search rules)

pub store-requires-clause-counts : goal.store-requires-clause-counts
store-requires-clause-counts c = stores_count 0 _ (caller_of c.args.seat.now) (search rules) 0 _
