use Rattle.std.proofs.Common.{rules}
use Rattle.scmi_words.specs.View.{caller_of}
use Rattle.scmi_words.proofs.CallerCloses.{closes_allowed}
use Rattle.scmi_words.proofs.Counted.{closes_count}
use Rattle.scmi_words.proofs.caller_steps.set_caller_closed.Goals as goal

pub fetch_or-requires-clause-rule : goal.fetch_or-requires-clause-rule
fetch_or-requires-clause-rule c =
    closes_allowed _ _ _ (caller_of c.args.seat.now) _ (search rules) c.requires.bits

pub fetch_or-requires-clause-counts : goal.fetch_or-requires-clause-counts
fetch_or-requires-clause-counts c = closes_count 0 _ (caller_of c.args.seat.now) (search rules) _
