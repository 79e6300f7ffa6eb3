use Rattle.std.proofs.Common.{rules, option_map, ap, ◌∙◌, subst}
use Rattle.scmi_core.specs.Asked.{Refused, and_asked}
use Rattle.scmi_core.specs.Said.{next_effect}
use Rattle.scmi_c.specs.Standing.{Held, HasHistory}
use Rattle.scmi_c.proofs.Answering.{some-and}
use Rattle.scmi_c.proofs.Driving.{drives_failed}
use Rattle.scmi_c.proofs.Askable.{still-advance_failed}
use Rattle.scmi_c.proofs.held.Held.advance_failed.Goals as goal

pub returns-clause-driven : goal.returns-clause-driven
returns-clause-driven c =
    some-and c.args.fault c.in-Some.fault _ (search rules)
    (drives_failed c.args.self.now _ c.in-Some.fault (search rules)
    (c.and-said.ensures ∙ ap (λ (p : Held). and_asked p.said (option_map
    (λ effect. Refused effect c.in-Some.fault) (next_effect p.platform))) c.self.view_is))

pub returns-clause-askable : goal.returns-clause-askable
returns-clause-askable c = still-advance_failed c.args.self.now _ c.in-Some.fault
    (subst HasHistory c.self.view_is c.self.invariant) (search rules)
