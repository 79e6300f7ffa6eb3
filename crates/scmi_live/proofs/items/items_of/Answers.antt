use Rattle.std.proofs.Common.{map, sym}
use Rattle.std.proofs.lemmas.Result.{err_from_is_err_and}
use Rattle.scmi_board.proofs.ItemLemmas.{none_of_nothing, some_of_something}
use Rattle.scmi_board.specs.Items.{items_left, items_of}
use Rattle.scmi_live.proofs.ItemLists.{item_fails, items_done}
use Rattle.scmi_live.proofs.items.items_of.Goals as goal

pub returns-in_err-item : goal.returns-in_err-item
returns-in_err-item c =
    let p = err_from_is_err_and c.from_residual.result c.from_residual.ensures.1 in
    rw (p.1, p.2) (item_fails (map (λ item. item.now) c.loop-items.all.items)
    (items_left c.loop-items.items) (items_of c.args.text.now)
    c.in_err-item.field-0.0 c.in_err-item.ensures.items (some_of_something c.loop-items.items
    (sym c.loop-items-test.ensures)) c.loop-items.invariant)

pub returns : goal.returns
returns c = items_done (map (λ item. item.now) c.loop-items.all.items)
    (items_left c.loop-items.items) (items_of c.args.text.now)
    (none_of_nothing c.loop-items.items (sym c.loop-items-test.ensures)) c.loop-items.invariant
