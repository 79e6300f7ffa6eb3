use Rattle.std.proofs.Common.{rules}
use Rattle.scmi_c.proofs.Driving.{starts}
use Rattle.scmi_c.proofs.held.Held.new.Goals as goal

pub returns-clause-driven : goal.returns-clause-driven
returns-clause-driven c = starts _ (search rules) (search rules)
