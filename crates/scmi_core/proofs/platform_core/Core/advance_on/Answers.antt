use Rattle.std.proofs.Common.{sym, subst}
use Rattle.scmi_core.specs.Driven.{HasMade, IsEnd}
use Rattle.scmi_core.proofs.EffectsMade.{made-on}
use Rattle.scmi_core.proofs.platform_core.Core.advance_on.Goals as goal

pub returns-clause-made : goal.returns-clause-made
returns-clause-made g c = λ before made.
    let board = c.self.inside.platform.board in
    let old = g.H.Hardware.asked c.args.hardware.now in
    let new = g.H.Hardware.asked c.end_on.new.hardware in
    let start : HasMade before board c.self.inside.trace.events old =
    subst (λ p. HasMade before p.board p.history old) (sym c.self.view_is) made in
    let kept : HasMade before board c.reserve.new.self.events old =
    subst (λ h. HasMade before board h old) (sym c.reserve.ensures.events) start in
    subst (λ b. HasMade before b c.end_on.new.self.history new) (sym c.end_on.ensures.board)
    (made-on board IsEnd c.reserve.new.self.events c.end_on.new.self.history old new before
    c.end_on.ensures.happens kept)
