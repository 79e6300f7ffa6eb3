use Rattle.std.proofs.Common.{◌<◌, ◌++◌, ◌∷◌, [], length, sym, subst}
use Rattle.scmi_core.specs.Standing.{StandsAfter}
use Rattle.scmi_core.specs.declared.event.Event.TheVariants.{Advance}
use Rattle.scmi_core.proofs.Ties.{Agrees-advance}
use Rattle.scmi_core.proofs.Bounds.{load-bound}
use Rattle.scmi_core.proofs.platform.Platform.complete.Goals as goal

pub complete-requires-clause-room : goal.complete-requires-clause-room
complete-requires-clause-room c = λ a lo hi.
    load-bound c.self.inside.plan c.self.inside.tables c.self.invariant.0 c.self.invariant.1 a lo hi

pub invariant_of-self : goal.invariant_of-self
invariant_of-self c =
    let waiting : 0 < length c.self.inside.tables.pending =
    subst (λ p. 0 < length p.tables.pending) (sym c.self.view_is) c.requires.waiting in (
      c.self.invariant.0 ++ Advance ∷ [],
      Agrees-advance c.self.inside.plan c.self.inside.tables c.complete.new.self c.self.invariant.0
          c.self.invariant.1 c.complete.ensures.valid waiting c.complete.ensures.stepped,
    )

pub returns-clause-event : goal.returns-clause-event
returns-clause-event c = λ h stands.
    let waiting : 0 < length c.self.inside.tables.pending =
    subst (λ p. 0 < length p.tables.pending) (sym c.self.view_is) c.requires.waiting in
    Agrees-advance c.self.inside.plan c.self.inside.tables c.complete.new.self h
    (subst (λ p. StandsAfter p h) (sym c.self.view_is) stands)
    c.complete.ensures.valid waiting c.complete.ensures.stepped
