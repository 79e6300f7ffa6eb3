use Rattle.std.proofs.Common.{rules, ◌≡◌, true}
use Rattle.scmi_plan.specs.BoardRows.{HasNames}
use Rattle.scmi_plan.specs.PlanError.{has_valid_counts}
use Rattle.scmi_plan.specs.RawPlan.{asked_board}
use Rattle.scmi_plan.proofs.FaultLemmas.{counts_of_valid, named_agents, named_clocks, named_domains, names_of_valid}
use Rattle.scmi_plan.proofs.build.build_rows.Goals as goal

pub build_agents-requires : goal.build_agents-requires
build_agents-requires c = rw c.deref-3.ensures.value (named_agents c.args.raw.now c.requires)

pub build_domains-requires : goal.build_domains-requires
build_domains-requires c = rw c.deref-4.ensures.value (named_domains c.args.raw.now c.requires)

pub build_clocks-requires : goal.build_clocks-requires
build_clocks-requires c = rw c.deref-6.ensures.value (named_clocks c.args.raw.now c.requires)

pub invariant_of-result : goal.invariant_of-result
invariant_of-result c =
    let counts : has_valid_counts (asked_board c.args.raw.now) ≡ true =
    counts_of_valid (asked_board c.args.raw.now) c.requires in
    let names : HasNames (asked_board c.args.raw.now) =
    names_of_valid (asked_board c.args.raw.now) c.requires in
    search rules
