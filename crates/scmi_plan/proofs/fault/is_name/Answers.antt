use Rattle.std.proofs.Common.{◌∙◌}
use Rattle.scmi_plan.proofs.FaultLemmas.{Decides-is_name}
use Rattle.std.proofs.lemmas.Bool.Decides.{same_from_decides}
use Rattle.scmi_plan.proofs.fault.is_name.Goals as goal

pub returns : goal.returns
returns c =
    c.is_some.ensures
    ∙ same_from_decides _ _ (c.new.ensures.variant.0, c.new.ensures.variant.1)
    (Decides-is_name c.args.text.now)
