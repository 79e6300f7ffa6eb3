use Rattle.scmi_plan.specs.RawPlan.{asked_board}
use Rattle.scmi_modes.specs.declared.kind.Kind.TheVariants.{Rings, Words}
use Rattle.scmi_chart.proofs.Histories.{shows_threads}
use Rattle.scmi_chart.proofs.threads.chart_of_threads.Goals as goal

pub returns-in-Rings : goal.returns-in-Rings
returns-in-Rings g c = record {
  shown = rw c.in-Rings.is (shows_threads Rings c.args.bytes.now
      (asked_board c.in_ok-board.board) c.in_ok-board.scripts.items c.deref.result.now
      c.draw_agents.result c.in_ok-board.ensures.input c.deref.ensures.value c.draw_agents.ensures);
}

pub returns : goal.returns
returns g c = record {
  shown = rw c.in-Words.is (shows_threads Words c.args.bytes.now (asked_board c.in_ok-board.board)
      c.in_ok-board.scripts.items c.deref-in-Words.result.now c.draw_agents-in-Words.result
      c.in_ok-board.ensures.input c.deref-in-Words.ensures.value c.draw_agents-in-Words.ensures);
}
