use Rattle.std.proofs.Common.{subst}
use Rattle.scmi_core.specs.Standing.{StandsAfter}
use Rattle.scmi_core.proofs.platform.Platform.answer_failed.Goals as goal

pub returns-in_default-clause-answer : goal.returns-in_default-clause-answer
returns-in_default-clause-answer c =
    let h = c.self.invariant.0 in
    let stands = subst (λ p. StandsAfter p h) c.self.view_is c.self.invariant.1 in
    absurd (c.requires.effect h stands ((c.changing.ensures.none h stands).0 c.in_default.is))
