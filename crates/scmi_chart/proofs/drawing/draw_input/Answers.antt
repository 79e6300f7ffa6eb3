use Rattle.scmi_chart.proofs.drawing.draw_input.Goals as goal

pub returns-in-Ok-clause-diagram : goal.returns-in-Ok-clause-diagram
returns-in-Ok-clause-diagram g c = λ mermaid done. c.in-Ok.ensures.diagram mermaid
