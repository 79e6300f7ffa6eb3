use Rattle.std.proofs.Common.{rules, tests}
use Rattle.std.proofs.lemmas.Iterator.{YieldsList-from_slice}
use Rattle.std.proofs.lemmas.Iterator.Search.{any_from_yields_List}
use Rattle.scmi_c.specs.Tables.{is_zero}
use Rattle.scmi_c.proofs.tables.has_zero.Goals as goal

pub returns : goal.returns
returns c = any_from_yields_List (is_zero) _ _ _ c.any.ensures.ran
    (YieldsList-from_slice c.args.name.now cc) (λ x b q k. search (rules, tests))
