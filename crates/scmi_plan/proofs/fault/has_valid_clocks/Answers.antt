use Rattle.std.proofs.Common.{rules, tests, sym, ◌∙◌, ◌&&◌}
use Rattle.std.proofs.lemmas.Iterator.{YieldsList-from_slice}
use Rattle.std.proofs.lemmas.Iterator.Search.{all_from_yields_List}
use Rattle.std.proofs.lemmas.List.Folds.{list_all-map}
use Rattle.scmi_plan.specs.PlanError.{is_valid, supports}
use Rattle.scmi_plan.specs.Rates.{rates_of}
use Rattle.scmi_plan.specs.RawPlan.{asked_clock}
use Rattle.scmi_plan.proofs.fault.has_valid_clocks.Goals as goal

pub returns : goal.returns
returns c =
    all_from_yields_List (λ clock. is_valid (rates_of clock.rates)
    && supports (rates_of clock.rates) clock.rate) _ _ _ c.all.ensures.ran
    (YieldsList-from_slice c.args.raw.now.clocks.items cc) (λ x b q k. search (rules, tests))
    ∙ sym (list_all-map (λ clock. is_valid clock.rates && supports clock.rates clock.rate)
    asked_clock c.args.raw.now.clocks.items)
