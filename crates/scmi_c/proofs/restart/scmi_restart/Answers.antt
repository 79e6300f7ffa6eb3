use Rattle.std.proofs.Common.{sym, subst, ◌∙◌}
use Rattle.scmi_c.specs.Kept.{IsFree, Kept, asked_by}
use Rattle.scmi_c.proofs.Keeping.{free-kept}
use Rattle.scmi_c.proofs.restart.scmi_restart.Goals as goal

pub invariant_of-behind-desk : goal.invariant_of-behind-desk
invariant_of-behind-desk c =
    let inside = c.behind-desk.inside in
    let view : Kept = record {
      held = inside.held;
      asked = asked_by inside.exchange.frame inside.waiting;
      aside = inside.aside.slots;
    } in
    let free : IsFree view = subst IsFree
    (sym (c.behind-desk.view_is ∙ c.deref_mut.ensures.value)) c.in-Ok.ensures.free in (
      free-kept c.restart-given.new.self inside.exchange.frame inside.exchange.frame inside.waiting
          inside.aside.slots free.unasked free.none,
      c.behind-desk.invariant.1,
    )
