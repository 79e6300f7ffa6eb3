use Rattle.std.proofs.Common.{[]}
use Rattle.scmi_core.proofs.Ties.{Agrees-new}
use Rattle.scmi_core.proofs.platform.Platform.new.Goals as goal

pub invariant_of-result : goal.invariant_of-result
invariant_of-result c = let made = c.new-tables.ensures in (
  [],
  Agrees-new c.args.plan c.new-tables.result made.base made.subscriptions made.values
      made.pending made.outboxes,
)

pub returns-clause-start : goal.returns-clause-start
returns-clause-start c = let made = c.new-tables.ensures in
    Agrees-new c.args.plan c.new-tables.result made.base made.subscriptions made.values made.pending
    made.outboxes
