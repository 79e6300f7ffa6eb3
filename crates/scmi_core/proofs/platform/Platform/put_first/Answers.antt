use Rattle.std.proofs.Common.{◌<◌, ◌++◌, ◌∷◌, [], length, sym, subst}
use Rattle.scmi_core.specs.Standing.{StandsAfter}
use Rattle.scmi_core.specs.declared.event.Event.TheVariants.{Promoted}
use Rattle.scmi_core.proofs.Ties.{Agrees-promoted}
use Rattle.scmi_core.proofs.platform.Platform.put_first.Goals as goal

pub invariant_of-self : goal.invariant_of-self
invariant_of-self c =
    let place = c.args.place in
    let p = c.self.inside in
    let h = c.self.invariant.0 in
    let within : place < length p.tables.pending =
    subst (λ k. place < length k.tables.pending) (sym c.self.view_is) c.requires.pending in (
      h ++ Promoted place ∷ [],
      Agrees-promoted p.plan p.tables c.promote.new.self h place c.self.invariant.1 within
          c.promote.ensures,
    )

pub returns-clause-event : goal.returns-clause-event
returns-clause-event c = λ h stands.
    let place = c.args.place in
    let p = c.self.inside in
    let within : place < length p.tables.pending =
    subst (λ k. place < length k.tables.pending) (sym c.self.view_is) c.requires.pending in
    let stood = subst (λ k. StandsAfter k h) (sym c.self.view_is) stands in
    Agrees-promoted p.plan p.tables c.promote.new.self h place stood within c.promote.ensures
