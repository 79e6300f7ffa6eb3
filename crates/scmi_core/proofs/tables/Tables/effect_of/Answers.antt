use Rattle.std.proofs.Common.{sym}
use Rattle.scmi_core.specs.Tables.{situation_in}
use Rattle.scmi_core.proofs.NoEffect.{no_effect}
use Rattle.scmi_core.proofs.tables.Tables.effect_of.Goals as goal

pub returns-in_default : goal.returns-in_default
returns-in_default c =
    rw c.in-Good.is
    (sym (no_effect c.args.plan.now c.args.agent c.in-Good.message
    (situation_in c.args.agent c.args.self.now) (sym c.if-may_have_effect.ensures)))
