use Rattle.scmi_words.proofs.shared_table.SharedTable.store.Goals as goal

pub returns-clause-steps : goal.returns-clause-steps
returns-clause-steps g c = c.requires.counts 0 _ c.store.ensures.2
