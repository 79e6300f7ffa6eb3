use Rattle.std.proofs.Common.{arith}
use Rattle.scmi_plan.specs.RawPlan.{asked_board}
use Rattle.scmi_live.proofs.TwoItems.{too_few, too_many}
use Rattle.scmi_live.proofs.reports.clock_rate_of.Goals as goal

pub returns-in_default : goal.returns-in_default
returns-in_default c =
    too_few (asked_board c.args.board.now) c.args.items.now (omega (arith, c.in_default.len_below))

pub returns-in_default-2 : goal.returns-in_default-2
returns-in_default-2 c = too_many (asked_board c.args.board.now) c.args.items.now
    (omega (arith, c.in_default.len_at_least))
