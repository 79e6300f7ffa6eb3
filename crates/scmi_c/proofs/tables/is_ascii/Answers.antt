use Rattle.std.proofs.Common.{rules, tests, nat_lt}
use Rattle.std.proofs.lemmas.Iterator.{YieldsList-from_slice}
use Rattle.std.proofs.lemmas.Iterator.Search.{all_from_yields_List}
use Rattle.scmi_c.proofs.tables.is_ascii.Goals as goal

pub returns : goal.returns
returns c = all_from_yields_List (λ byte. nat_lt byte 128) _ _ _ c.all.ensures.ran
    (YieldsList-from_slice c.args.name.now cc) (λ x b q k. search (rules, tests))
