use Rattle.std.proofs.Common.{rules, tests, sym, ◌∙◌, string_bytes}
use Rattle.std.proofs.lemmas.Iterator.{YieldsList-from_slice}
use Rattle.std.proofs.lemmas.Iterator.Search.{all_from_yields_List}
use Rattle.std.proofs.lemmas.List.Folds.{list_all-map}
use Rattle.scmi_plan.specs.PlanError.{is_name}
use Rattle.scmi_plan.proofs.fault.are_agents_named.Goals as goal

pub returns : goal.returns
returns c =
    all_from_yields_List (λ agent. is_name (string_bytes agent)) _ _ _ c.all.ensures.ran
    (YieldsList-from_slice c.args.agents.now cc) (λ x b q k. search (rules, tests))
    ∙ sym (list_all-map is_name string_bytes c.args.agents.now)
