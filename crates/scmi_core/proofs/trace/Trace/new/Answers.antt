use Rattle.std.proofs.Common.{refl}
use Rattle.scmi_core.specs.Trace.{AreEvents, events_of}
use Rattle.scmi_core.proofs.trace.Trace.new.Goals as goal

pub invariant_of-result : goal.invariant_of-result
unfolding AreEvents
invariant_of-result c = c.new.ensures.items

pub returns : goal.returns
unfolding events_of
returns c = record { events = refl }
