use Rattle.std.proofs.Common.{◌++◌, ◌∷◌, [], sym, subst}
use Rattle.scmi_core.specs.Standing.{StandsAfter}
use Rattle.scmi_core.specs.Tables.{CanSettleIn}
use Rattle.scmi_core.specs.declared.event.Event.TheVariants.{Settled}
use Rattle.scmi_core.proofs.Ties.{Agrees-settled}
use Rattle.scmi_core.proofs.platform.Platform.give_rate.Goals as goal

pub invariant_of-self : goal.invariant_of-self
invariant_of-self c =
    let clock = c.args.clock in
    let rate = c.args.rate in
    let p = c.self.inside in
    let h = c.self.invariant.0 in
    let may : CanSettleIn p.plan p.tables clock =
    subst (λ k. CanSettleIn k.board k.tables clock) (sym c.self.view_is) c.requires.pending in (
      h ++ Settled clock rate ∷ [],
      Agrees-settled p.plan p.tables c.settle.new.self h clock rate c.self.invariant.1 may
          c.settle.ensures,
    )

pub returns-clause-event : goal.returns-clause-event
returns-clause-event c = λ h stands.
    let clock = c.args.clock in
    let rate = c.args.rate in
    let p = c.self.inside in
    let may : CanSettleIn p.plan p.tables clock =
    subst (λ k. CanSettleIn k.board k.tables clock) (sym c.self.view_is) c.requires.pending in
    let stood = subst (λ k. StandsAfter k h) (sym c.self.view_is) stands in
    Agrees-settled p.plan p.tables c.settle.new.self h clock rate stood may c.settle.ensures
