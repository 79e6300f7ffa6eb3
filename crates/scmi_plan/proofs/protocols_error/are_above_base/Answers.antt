use Rattle.std.proofs.Common.{rules, tests, nat_lt}
use Rattle.std.proofs.lemmas.Iterator.{YieldsList-from_slice}
use Rattle.std.proofs.lemmas.Iterator.Search.{all_from_yields_List}
use Rattle.scmi_plan.proofs.protocols_error.are_above_base.Goals as goal

pub returns : goal.returns
returns c =
    all_from_yields_List (λ id. nat_lt 0x10 id) _ _ _ c.all.ensures.ran
    (YieldsList-from_slice c.args.ids.now cc) (λ x b q k. search (rules, tests))
