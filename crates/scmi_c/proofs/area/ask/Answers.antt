use Rattle.scmi_c.specs.Kept.{aside_by}
use Rattle.scmi_c.proofs.Keeping.{own-free, spared-aside}
use Rattle.scmi_c.proofs.area.ask.Goals as goal

pub returns-then-is_none-clause-aside : goal.returns-then-is_none-clause-aside
returns-then-is_none-clause-aside c = λ may.
    spared-aside c.args.held.now c.execute.new.held
    (aside_by c.args.aside.now.slots) c.args.agent c.read_channel_area_into.new.frame
    c.execute.ensures.spared c.in_ok-check_aside.ensures.spared may

pub returns-else-is_none-clause-apart : goal.returns-else-is_none-clause-apart
returns-else-is_none-clause-apart c = λ some.
    own-free c.args.aside.now.slots c.args.agent c.read_channel_area_into.new.frame
    (c.in_ok-effect.ensures.set some) c.in_ok-check_aside.ensures.spared
