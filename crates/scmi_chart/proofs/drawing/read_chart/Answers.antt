use Rattle.std.proofs.Common.{◌≡◌, ℕ, List, rules, subst}
use Rattle.scmi_modes.specs.AnyMode.{any_text_of}
use Rattle.scmi_chart.specs.Picture.{ShowsInput}
use Rattle.scmi_chart.proofs.Inputs.{behind_line, named_line}
use Rattle.scmi_chart.proofs.drawing.read_chart.Goals as goal

pub returns-clause-shown : goal.returns-clause-shown
returns-clause-shown g c =
    let mode : c.in_ok-line.line.items ≡ any_text_of c.in_ok-mode.mode = search rules in record {
      mode = c.in_ok-mode.mode;
      rest = c.in_ok-bytes.bytes.items;
      named = named_line _ c.in_ok-line.line.items c.in_ok-mode.mode c.in_ok-line.ensures.line mode;
      behind = behind_line _ c.read_first_line.new.self.left c.in_ok-bytes.bytes.items
          c.in_ok-line.ensures.rest c.in_ok-bytes.ensures.whole;
      shown = subst (λ (xs : List ℕ). ShowsInput c.in_ok-mode.mode xs c.in_ok-chart.chart)
          c.deref-2.ensures.value c.in_ok-chart.ensures.shown;
    }
