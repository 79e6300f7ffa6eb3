use Rattle.std.proofs.Common.{false, sym, true}
use Rattle.scmi_decode.proofs.Items as items
use Rattle.scmi_decode.proofs.dump.items_cells.Goals as goal

pub returns-then-not-branch : goal.returns-then-not-branch
returns-then-not-branch c = record {
  straight = sym (items.stop false (λ item. item.now) _ _ _ _ _ _ c.items-test.true
      c.in_ok-add_cells.ensures.straight c.if-not-branch.true);
  turned = sym (items.stop true (λ item. item.now) _ _ _ _ _ _ c.items-test.true
      c.in_ok-add_cells.ensures.turned c.if-not-branch.true);
}

pub items-preserved : goal.items-preserved
items-preserved c = record {
  straight = items.more false (λ item. item.now) _ _ _ _ _ _ c.items-test.true
      c.in_ok-add_cells.ensures.straight c.if-not-branch.false c.items.invariant.straight;
  turned = items.more true (λ item. item.now) _ _ _ _ _ _ c.items-test.true
      c.in_ok-add_cells.ensures.turned c.if-not-branch.false c.items.invariant.turned;
}
