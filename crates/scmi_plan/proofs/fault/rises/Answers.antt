use Rattle.std.proofs.Common.{rules, nat_lt, refl}
use Rattle.std.proofs.lemmas.Bool.Decides.{same_from_decides}
use Rattle.std.proofs.lemmas.Fn.{always_returns_same}
use Rattle.scmi_plan.specs.PlanError.{rises}
use Rattle.scmi_plan.proofs.FaultLemmas.{Decides-rises, Decides-below_next}
use Rattle.scmi_plan.proofs.fault.rises.Goals as goal

pub returns : goal.returns
returns c =
    let rates = c.args.rates.now in
    same_from_decides c.is_sorted_by.result (rises rates)
    (Decides-below_next c.is_sorted_by.result rates (c.is_sorted_by.ensures.cases nat_lt
    (always_returns_same _ _ _ (λ a r f' k. (search rules, refl)))))
    (Decides-rises rates)
