use Rattle.scmi_core.proofs.platform_core.Core.new.Goals as goal

pub invariant_of-result : goal.invariant_of-result
invariant_of-result c = rw (c.new-2.ensures.events) c.new.ensures.start
