use Rattle.std.proofs.Common.{◌<◌, ◌++◌, ◌∷◌, [], length, sym, subst}
use Rattle.scmi_core.specs.Standing.{StandsAfter}
use Rattle.scmi_core.specs.declared.event.Event.TheVariants.{AdvanceFailed}
use Rattle.scmi_core.proofs.Ties.{Agrees-advance_failed}
use Rattle.scmi_core.proofs.Bounds.{load-bound}
use Rattle.scmi_core.proofs.platform.Platform.fail.Goals as goal

pub fail-requires-clause-room : goal.fail-requires-clause-room
fail-requires-clause-room c = λ a lo hi.
    load-bound c.self.inside.plan c.self.inside.tables c.self.invariant.0 c.self.invariant.1 a lo hi

pub invariant_of-self : goal.invariant_of-self
invariant_of-self c =
    let waiting : 0 < length c.self.inside.tables.pending =
    subst (λ p. 0 < length p.tables.pending) (sym c.self.view_is) c.requires.waiting in (
      c.self.invariant.0 ++ AdvanceFailed c.args.fault ∷ [],
      Agrees-advance_failed c.self.inside.plan c.self.inside.tables c.fail.new.self
          c.self.invariant.0 c.args.fault c.self.invariant.1 c.fail.ensures.valid waiting
          c.fail.ensures.failed,
    )

pub returns-clause-event : goal.returns-clause-event
returns-clause-event c = λ h stands.
    let waiting : 0 < length c.self.inside.tables.pending =
    subst (λ p. 0 < length p.tables.pending) (sym c.self.view_is) c.requires.waiting in
    Agrees-advance_failed c.self.inside.plan c.self.inside.tables c.fail.new.self h c.args.fault
    (subst (λ p. StandsAfter p h) (sym c.self.view_is) stands)
    c.fail.ensures.valid waiting c.fail.ensures.failed
