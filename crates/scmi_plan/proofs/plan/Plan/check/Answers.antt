use Rattle.std.proofs.Common.{◌≡◌, None, Some}
use Rattle.scmi_plan.specs.PlanError.{first_fault}
use Rattle.scmi_plan.specs.RawPlan.{asked_board}
use Rattle.scmi_plan.proofs.FaultLemmas.{valid}
use Rattle.scmi_plan.proofs.plan.Plan.check.Goals as goal

pub build-requires : goal.build-requires
build-requires c =
    let none : first_fault (asked_board c.args.raw.now) ≡ None = cc c.in-None.ensures.fault in
    (valid c.args.raw.now).0 none

pub returns-in-None-clause-rules : goal.returns-in-None-clause-rules
returns-in-None-clause-rules c = valid c.args.raw.now

pub returns-in-Some-clause-accepted : goal.returns-in-Some-clause-accepted
returns-in-Some-clause-accepted c = λ law.
    let none : first_fault (asked_board c.args.raw.now) ≡ None = (valid c.args.raw.now).1 law in
    let some : first_fault (asked_board c.args.raw.now) ≡ Some c.in-Some.fault =
    cc c.in-Some.ensures.fault in
    cc

pub returns-in-Some-clause-rules : goal.returns-in-Some-clause-rules
returns-in-Some-clause-rules c = valid c.args.raw.now
