use Rattle.std.proofs.Common.{◌≡◌, rules, subst, Option, List, ℕ}
use Rattle.scmi_chart.specs.Picture.{IsDiagram}
use Rattle.scmi_chart.proofs.drawing.run_draw.Goals as goal

pub returns : goal.returns
returns g c =
    let known : c.new-input.result.left ≡ g.R.Read.remaining c.args.reader.now = search rules in
    record {
      diagram = λ mermaid done.
          subst (λ (left : Option (List ℕ)). IsDiagram left (g.W.Write.contents c.args.writer.now)
          (g.W.Write.contents c.draw_input.new.writer))
          known (c.draw_input.ensures.diagram mermaid done);
    }
