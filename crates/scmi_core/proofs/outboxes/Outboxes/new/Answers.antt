use Rattle.std.proofs.Common.{◌≤◌, ◌-◌, List, length, sym, subst, refl, arith}
use Rattle.scmi_codec.specs.declared.message.Message.{Message}
use Rattle.scmi_core.proofs.Boxes.{eight_empty}
use Rattle.scmi_core.proofs.outboxes.Outboxes.new.Goals as goal

pub returns : goal.returns
returns c a =
    eight_empty c.new.result c.new-2.result c.new-3.result c.new-4.result c.new-5.result
    c.new-6.result c.new-7.result c.new-8.result c.new.ensures c.new-2.ensures c.new-3.ensures
    c.new-4.ensures c.new-5.ensures c.new-6.ensures c.new-7.ensures c.new-8.ensures (a - 1)

pub invariant_of-result : goal.invariant_of-result
invariant_of-result c =
    record {
      each = refl;
      few = λ a. subst (λ (o : List Message). length o ≤ 16) (sym (returns c a)) (omega arith);
    }
