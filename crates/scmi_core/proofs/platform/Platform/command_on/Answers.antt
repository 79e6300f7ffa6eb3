use Rattle.scmi_core.specs.Driven.{IsCommandOf}
use Rattle.scmi_core.proofs.EffectsMade.{driven-on}
use Rattle.scmi_core.proofs.platform.Platform.command_on.Goals as goal

pub returns-clause-driven : goal.returns-clause-driven
returns-clause-driven g c = driven-on (IsCommandOf c.args.agent c.args.frame.now) c.args.self.now
    c.execute_on.new.self (g.H.Hardware.asked c.args.hardware.now) (g.H.Hardware.asked
    c.execute_on.new.hardware) c.execute_on.ensures.executes.happens c.execute_on.ensures.board
