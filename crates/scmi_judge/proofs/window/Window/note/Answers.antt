use Rattle.scmi_judge.proofs.window.Window.note.Goals as goal

pub returns-clause-boards : goal.returns-clause-boards
returns-clause-boards c = λ board of. c.move_on.ensures.boards board
    (record { before = of.before; between = of.between })
