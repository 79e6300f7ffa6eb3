use Rattle.scmi_core.specs.Driven.{IsEnd}
use Rattle.scmi_core.proofs.EffectsMade.{driven-on}
use Rattle.scmi_core.proofs.platform.Platform.advance_on.Goals as goal

pub returns-clause-driven : goal.returns-clause-driven
returns-clause-driven g c =
    driven-on IsEnd c.args.self.now c.end_on.new.self (g.H.Hardware.asked c.args.hardware.now)
    (g.H.Hardware.asked c.end_on.new.hardware) c.end_on.ensures.happens c.end_on.ensures.board
