use Rattle.std.proofs.Common.{rules, tests, ◌&&◌, ◌||◌}
use Rattle.std.proofs.lemmas.Iterator.{YieldsList-from_slice}
use Rattle.std.proofs.lemmas.Iterator.Search.{all_from_yields_List}
use Rattle.scmi_plan.specs.PlanError.{is_valid, supports}
use Rattle.scmi_plan.proofs.fault.are_valid_clocks.Goals as goal

pub returns : goal.returns
returns c =
    all_from_yields_List (λ clock. is_valid clock.rates
    && (c.args.loose || supports clock.rates clock.rate)) _ _ _ c.all.ensures.ran
    (YieldsList-from_slice c.args.clocks.now cc) (λ x b q k. search (rules, tests))
