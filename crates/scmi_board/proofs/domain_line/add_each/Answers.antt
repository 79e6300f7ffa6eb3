use Rattle.std.proofs.Common.{get_or, refl}
use Rattle.std.proofs.lemmas.Result.{err_from_is_err_and}
use Rattle.scmi_plan.specs.RawPlan.{asked_domain}
use Rattle.scmi_board.specs.Rows.{after_each, with_kind}
use Rattle.scmi_board.proofs.Steps.{all_done, stops}
use Rattle.scmi_board.proofs.domain_line.add_each.Goals as goal

pub returns-in_err-add_kind : goal.returns-in_err-add_kind
returns-in_err-add_kind c =
    let p = err_from_is_err_and c.from_residual.result c.from_residual.ensures.1 in
    let kinds = c.args.kinds.now in
    rw (p.1, p.2) (stops with_kind (asked_domain c.loop-kind.domain) kinds c.loop-kind.kind-index
    (get_or kinds c.loop-kind.kind-index 0) 0
    (after_each with_kind (asked_domain c.args.domain.now) kinds) c.in_err-add_kind.field-0.0
    c.loop-kind-test.true refl c.in_err-add_kind.ensures c.loop-kind.invariant)

pub returns : goal.returns
returns c = all_done with_kind (asked_domain c.loop-kind.domain) c.args.kinds.now
    c.loop-kind.kind-index (after_each with_kind (asked_domain c.args.domain.now) c.args.kinds.now)
    c.loop-kind-test.false c.loop-kind.invariant
