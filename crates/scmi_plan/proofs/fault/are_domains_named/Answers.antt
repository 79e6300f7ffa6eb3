use Rattle.std.proofs.Common.{rules, tests, sym, ◌∙◌, string_bytes}
use Rattle.std.proofs.lemmas.Iterator.{YieldsList-from_slice}
use Rattle.std.proofs.lemmas.Iterator.Search.{all_from_yields_List}
use Rattle.std.proofs.lemmas.List.Folds.{list_all-map}
use Rattle.scmi_plan.specs.PlanError.{is_name}
use Rattle.scmi_plan.specs.RawPlan.{asked_domain}
use Rattle.scmi_plan.proofs.fault.are_domains_named.Goals as goal

pub returns : goal.returns
returns c =
    all_from_yields_List (λ domain. is_name (string_bytes domain.name)) _ _ _ c.all.ensures.ran
    (YieldsList-from_slice c.args.domains.now cc) (λ x b q k. search (rules, tests))
    ∙ sym (list_all-map (λ domain. is_name domain.name) asked_domain c.args.domains.now)
