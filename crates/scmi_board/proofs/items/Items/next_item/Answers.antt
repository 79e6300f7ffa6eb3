use Rattle.scmi_board.proofs.ItemLemmas.{first_of_items, shortened}
use Rattle.scmi_board.proofs.items.Items.next_item.Goals as goal

pub returns-clause-smaller : goal.returns-clause-smaller
returns-clause-smaller c =
    shortened _ (λ item. item.now) c.args.self.now c.cut.new.self c.cut.result c.cut.ensures

pub returns-clause-items : goal.returns-clause-items
returns-clause-items c =
    first_of_items _ (λ item. item.now) c.args.self.now c.cut.new.self c.cut.result c.cut.ensures
