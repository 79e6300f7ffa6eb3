use Rattle.std.proofs.Common.{◌<◌, ◌≤◌, ◌++◌, ◌∷◌, [], length, refl, sym, subst}
use Rattle.scmi_core.specs.Standing.{StandsAfter}
use Rattle.scmi_core.specs.Tables.{outbox_at}
use Rattle.scmi_core.specs.declared.tables.Tables.{Tables}
use Rattle.scmi_core.specs.declared.event.Event.TheVariants.{Sent}
use Rattle.scmi_core.proofs.Ties.{Agrees-sent}
use Rattle.scmi_core.proofs.platform.Platform.take.Goals as goal

pub invariant_of-self : goal.invariant_of-self
invariant_of-self c =
    let last : c.args.agent ≤ length c.self.inside.plan.agents =
    subst (λ p. c.args.agent ≤ length p.board.agents) (sym c.self.view_is) c.requires.agent.1 in
    let some : 0 < length (outbox_at c.self.inside.tables c.args.agent) = subst
    (λ p. 0 < length (outbox_at p.tables c.args.agent)) (sym c.self.view_is) c.requires.some in
    let t = c.self.inside.tables in
    let new : Tables = record {
      base = t.base;
      power = t.power;
      clocks = t.clocks;
      pending = t.pending;
      outboxes = c.take.new.self;
    } in (
      c.self.invariant.0 ++ Sent c.args.agent ∷ [],
      Agrees-sent c.self.inside.plan t new c.self.invariant.0 c.args.agent c.self.invariant.1
          c.agents-agents.ensures.valid c.requires.agent.0 last some refl refl refl refl
          c.take.ensures.taken c.take.ensures.others,
    )

pub returns-clause-event : goal.returns-clause-event
returns-clause-event c = λ h stands.
    let last : c.args.agent ≤ length c.self.inside.plan.agents =
    subst (λ p. c.args.agent ≤ length p.board.agents) (sym c.self.view_is) c.requires.agent.1 in
    let some : 0 < length (outbox_at c.self.inside.tables c.args.agent) = subst
    (λ p. 0 < length (outbox_at p.tables c.args.agent)) (sym c.self.view_is) c.requires.some in
    let t = c.self.inside.tables in
    let new : Tables = record {
      base = t.base;
      power = t.power;
      clocks = t.clocks;
      pending = t.pending;
      outboxes = c.take.new.self;
    } in
    Agrees-sent c.self.inside.plan t new h c.args.agent
    (subst (λ p. StandsAfter p h) (sym c.self.view_is) stands)
    c.agents-agents.ensures.valid c.requires.agent.0 last some refl refl refl refl
    c.take.ensures.taken c.take.ensures.others
