use Rattle.std.proofs.Common.{rules}
use Rattle.scmi_words.specs.View.{caller_of}
use Rattle.scmi_words.proofs.CallerLooks.{looks_allowed}
use Rattle.scmi_words.proofs.Counted.{looks_count}
use Rattle.scmi_words.proofs.caller_steps.look.Goals as goal

pub load-requires-clause-rule : goal.load-requires-clause-rule
load-requires-clause-rule c = looks_allowed _ _ _ (caller_of c.args.seat.now) (search rules)

pub load-requires-clause-counts : goal.load-requires-clause-counts
load-requires-clause-counts c = looks_count 0 _ (caller_of c.args.seat.now) (search rules)
