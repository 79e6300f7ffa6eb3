use Rattle.std.proofs.Common.{rules, tests}
use Rattle.std.proofs.lemmas.Iterator.{YieldsList-from_slice}
use Rattle.std.proofs.lemmas.Iterator.Search.{all_from_yields_List}
use Rattle.scmi_c.specs.Tables.{is_clock_row}
use Rattle.scmi_c.proofs.tables.are_clocks.Goals as goal

pub returns : goal.returns
returns c = all_from_yields_List (is_clock_row c.args.rates) _ _ _ c.all.ensures.ran
    (YieldsList-from_slice c.args.clocks.now cc) (λ x b q k. search (rules, tests))
