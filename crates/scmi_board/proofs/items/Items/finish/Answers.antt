use Rattle.std.proofs.Common.{sym}
use Rattle.scmi_board.proofs.ItemLemmas.{none_of_nothing, some_of_something}
use Rattle.scmi_board.proofs.items.Items.finish.Goals as goal

pub returns-then-is_done-clause-items : goal.returns-then-is_done-clause-items
returns-then-is_done-clause-items c = none_of_nothing c.args.self.now (sym c.if-is_done.ensures)

pub returns-else-is_done-clause-items : goal.returns-else-is_done-clause-items
returns-else-is_done-clause-items c = some_of_something c.args.self.now (sym c.if-is_done.ensures)
