use Rattle.scmi_modes.proofs.Refused.{serves_refused}
use Rattle.scmi_modes.proofs.refused_steps.serve.Goals as goal

pub returns-in-Ok-clause-serves : goal.returns-in-Ok-clause-serves
returns-in-Ok-clause-serves g c = serves_refused c.args.fault c.serve_on.new.hardware.fault
    c.args.agent c.args.controller.now c.in-Ok.served c.serve_on.new.self
    c.serve_on.ensures.agrees.legal c.serve_on.ensures.board c.in-Ok.ensures.serves
