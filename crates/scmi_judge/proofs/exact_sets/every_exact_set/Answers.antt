use Rattle.scmi_judge.proofs.Exactness.{exact-more, exact-start, none-wrong, some-right}
use Rattle.scmi_judge.proofs.exact_sets.every_exact_set.Goals as goal

pub returns : goal.returns
returns c =
    record { start = exact-start; next = exact-more; right = some-right; wrong = none-wrong }
