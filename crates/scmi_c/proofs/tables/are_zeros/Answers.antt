use Rattle.std.proofs.Common.{rules, tests}
use Rattle.std.proofs.lemmas.Iterator.{YieldsList-from_slice}
use Rattle.std.proofs.lemmas.Iterator.Search.{all_from_yields_List}
use Rattle.scmi_c.specs.Tables.{is_zero}
use Rattle.scmi_c.proofs.tables.are_zeros.Goals as goal

pub returns : goal.returns
returns c = all_from_yields_List (is_zero) _ _ _ c.all.ensures.ran
    (YieldsList-from_slice c.args.bytes.now cc) (λ x b q k. search (rules, tests))
