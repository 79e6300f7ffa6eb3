use Rattle.std.proofs.Common.{refl}
use Rattle.scmi_text.proofs.ScriptAgents.{distinct_none}
use Rattle.scmi_text.proofs.script_list.ScriptList.new.Goals as goal

pub invariant_of-result-clause-begun_are : goal.invariant_of-result-clause-begun_are
invariant_of-result-clause-begun_are c =
    λ agent. rw (c.new-2.ensures.empty, c.new.ensures.items) refl

pub invariant_of-result-clause-distinct : goal.invariant_of-result-clause-distinct
invariant_of-result-clause-distinct c = rw c.new.ensures.items distinct_none
