use Rattle.std.proofs.Common.{rules}
use Rattle.scmi_words.specs.View.{caller_of}
use Rattle.scmi_words.proofs.CallerSteps.{reads_allowed}
use Rattle.scmi_words.proofs.Counted.{reads_count}
use Rattle.scmi_words.proofs.caller_steps.load_answer_word.Goals as goal

pub load-requires-clause-rule : goal.load-requires-clause-rule
load-requires-clause-rule c = reads_allowed _ _ _ (caller_of c.args.seat.now) _ (search rules)
    (search rules) (search rules) (search rules)

pub load-requires-clause-counts : goal.load-requires-clause-counts
load-requires-clause-counts c = reads_count 0 _ (caller_of c.args.seat.now) (search rules) _
