use Rattle.std.proofs.Common.{◌≡◌, Option, Some, None, option_map, refl, sym, ◌∙◌}
use Rattle.std.proofs.lemmas.Iterator.Consumers.{nth_from_yields_List, YieldsList-from_first}
use Rattle.scmi_core.specs.declared.event.Event.{Event}
use Rattle.scmi_core.proofs.trace.Trace.get.Goals as goal

same : (event : Option Event) → option_map (λ x. x) event ≡ event
same None = refl
same (Some event) = refl

pub returns : goal.returns
returns c =
    sym (same c.nth.result)
    ∙ nth_from_yields_List c.nth.result c.nth.new.self c.args.index c.nth.ensures.ran
    (YieldsList-from_first (λ x. x) (λ e. e) c.args.self.now.events c.events.ensures)
