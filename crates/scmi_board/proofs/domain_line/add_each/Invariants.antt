use Rattle.std.proofs.Common.{◌≡◌, drop}
use Rattle.scmi_plan.specs.RawPlan.{asked_domain}
use Rattle.scmi_board.specs.Rows.{after_each, with_kind}
use Rattle.scmi_board.proofs.domain_line.add_each.Given as goal

abbrev pub invariant-loop-kind : goal.invariant-loop-kind
invariant-loop-kind l = after_each with_kind (asked_domain l.domain) (drop l.kind-index l.kinds)
    ≡ after_each with_kind (asked_domain l.fn.domain) l.kinds
