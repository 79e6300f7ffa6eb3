use Rattle.std.proofs.Common.{rules}
use Rattle.scmi_words.specs.View.{callee_of}
use Rattle.scmi_words.proofs.CalleeSteps.{reads_allowed}
use Rattle.scmi_words.proofs.Counted.{callee_reads_count}
use Rattle.scmi_words.proofs.callee_steps.load_frame_word.Goals as goal

pub load-requires-clause-rule : goal.load-requires-clause-rule
load-requires-clause-rule c = reads_allowed _ _ _ (callee_of c.args.seat.now) _ (search rules)
    (search rules) (search rules) (search rules)

pub load-requires-clause-counts : goal.load-requires-clause-counts
load-requires-clause-counts c = callee_reads_count 0 _ (callee_of c.args.seat.now) (search rules) _
