use Rattle.std.proofs.Common.{refl, subst, sym}
use Rattle.scmi_core.specs.declared.tables.Tables.{Tables}
use Rattle.scmi_core.specs.Step.{HasChanged}
use Rattle.scmi_core.specs.Tables.{IsOfBoard, IsThing}
use Rattle.scmi_core.specs.Value.{given, thing_of}
use Rattle.scmi_core.proofs.Changes.{completed-stepped}
use Rattle.scmi_core.proofs.Firsts.{first-of-all}
use Rattle.scmi_core.proofs.tables.Tables.complete.Goals as goal

pub change-requires : goal.change-requires
change-requires c =
    let p = c.pop_first-done.result in
    let board = c.args.plan.now in
    let known = first-of-all (IsOfBoard board) c.args.self.now.pending p
    c.pop_first-done.ensures.first c.requires.known in
    record {
      known = subst (λ e. IsThing board (thing_of e))
          (sym c.effect-effect.ensures) known.thing;
    }

pub returns : goal.returns
returns c =
    let t = c.args.self.now in
    let p = c.pop_first-done.result in
    let board = c.args.plan.now in
    let between : Tables = record {
      base = t.base;
      power = t.power;
      clocks = t.clocks;
      pending = c.pop_first-done.new.self;
      outboxes = c.respond.new.self;
    } in
    record {
      valid = c.change.ensures.valid;
      stepped =
          completed-stepped board t between c.change.new.self p c.pop_first-done.ensures.first refl
          refl refl c.pop_first-done.ensures.rest c.respond.ensures
          (subst (λ e. HasChanged board (given p.agent e) between c.change.new.self)
          c.effect-effect.ensures c.change.ensures.changed);
    }
