use Rattle.std.proofs.Common.{rules, option_map, ap, ◌∙◌, subst}
use Rattle.scmi_core.specs.Asked.{Made, and_asked}
use Rattle.scmi_core.specs.Said.{next_effect}
use Rattle.scmi_c.specs.Standing.{Held, HasHistory}
use Rattle.scmi_c.proofs.Driving.{drives_next}
use Rattle.scmi_c.proofs.Askable.{still-advanced}
use Rattle.scmi_c.proofs.held.Held.advance.Goals as goal

pub returns-clause-driven : goal.returns-clause-driven
returns-clause-driven c = λ is.
    drives_next c.args.self.now _ (search rules) (c.and-said.ensures ∙ ap
    (λ (p : Held). and_asked p.said (option_map Made (next_effect p.platform))) c.self.view_is)

pub returns-clause-askable : goal.returns-clause-askable
returns-clause-askable c = still-advanced c.args.self.now _
    (subst HasHistory c.self.view_is c.self.invariant) (search rules)
