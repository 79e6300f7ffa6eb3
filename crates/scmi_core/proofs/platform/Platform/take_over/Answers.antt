use Rattle.std.proofs.Common.{◌++◌, ◌∷◌, [], sym, subst}
use Rattle.scmi_core.specs.Standing.{StandsAfter}
use Rattle.scmi_core.specs.Value.{IsReportable}
use Rattle.scmi_core.specs.declared.event.Event.TheVariants.{Reported}
use Rattle.scmi_core.proofs.Reports.{Agrees-reported}
use Rattle.scmi_core.proofs.platform.Platform.take_over.Goals as goal

pub report-requires : goal.report-requires
report-requires c = record {
  reportable = subst (λ p. IsReportable p.board c.args.effect)
      (sym c.self.view_is) c.requires.reportable;
}

pub invariant_of-self : goal.invariant_of-self
invariant_of-self c =
    let reportable = subst (λ p. IsReportable p.board c.args.effect)
    (sym c.self.view_is) c.requires.reportable in (
      c.self.invariant.0 ++ Reported c.args.effect ∷ [],
      Agrees-reported c.self.inside.plan c.self.inside.tables c.report.new.self c.self.invariant.0
          c.args.effect c.self.invariant.1
          c.report.ensures.valid reportable c.report.ensures.changed,
    )

pub returns-clause-event : goal.returns-clause-event
returns-clause-event c = λ h stands.
    let reportable = subst (λ p. IsReportable p.board c.args.effect)
    (sym c.self.view_is) c.requires.reportable in
    Agrees-reported c.self.inside.plan c.self.inside.tables c.report.new.self h c.args.effect
    (subst (λ p. StandsAfter p h) (sym c.self.view_is) stands)
    c.report.ensures.valid reportable c.report.ensures.changed
