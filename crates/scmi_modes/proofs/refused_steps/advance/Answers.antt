use Rattle.scmi_modes.proofs.Refused.{advance_refused}
use Rattle.scmi_modes.proofs.refused_steps.advance.Goals as goal

pub returns-in-Ok-clause-advances : goal.returns-in-Ok-clause-advances
returns-in-Ok-clause-advances g c = advance_refused c.args.fault c.advance_on.new.hardware.fault
    c.args.controller.now c.advance_on.new.self c.in-Ok.more c.in-Ok.ensures.pending
    c.in-Ok.ensures.happens c.advance_on.ensures.rest c.in-Ok.ensures.same
