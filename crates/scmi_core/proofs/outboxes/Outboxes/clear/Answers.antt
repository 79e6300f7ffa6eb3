use Rattle.std.proofs.Common.{◌≡◌, ◌-◌, length, length-set, ap, ◌∙◌, arith}
use Rattle.scmi_core.proofs.Boxes.{few_after}
use Rattle.scmi_core.proofs.outboxes.Outboxes.clear.Goals as goal

pub invariant_of-self : goal.invariant_of-self
invariant_of-self c =
    let outboxes = c.self.inside.each in
    let a = c.args.agent in
    let new = c.clear.new.self in
    let none : length new ≡ 0 = ap length c.clear.ensures in
    record {
      each = length-set outboxes (a - 1) new ∙ c.self.invariant.each;
      few = few_after outboxes (a - 1) new (omega (arith, none)) c.self.invariant.few;
    }
