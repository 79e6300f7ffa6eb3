use Rattle.scmi_plan.proofs.plan.Plan.build.Goals as goal

pub filled-requires : goal.filled-requires
filled-requires c = rw c.in_ok-build_rows.ensures c.requires
