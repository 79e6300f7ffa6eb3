use Rattle.std.proofs.Common.{◌<◌, ◌≤◌, ◌∙◌, length, arith, ap}
use Rattle.scmi_chart.specs.Shown.{Shown, heads_from}
use Rattle.scmi_chart.proofs.SoFar.{all_steps, no_step, step_more}
use Rattle.scmi_chart.proofs.run.step_through.Goals as goal

pub steps-init : goal.steps-init
steps-init g c = record {
  agents = c.in_ok-session.ensures.new.count;
  so_far = no_step _ _ _ _ _ _ c.in_ok-session.ensures.new c.in_ok-recorder.ensures;
}

pub steps-preserved : goal.steps-preserved
steps-preserved g c =
    let below : c.steps.i < length c.args.steps.now =
    omega (arith, c.steps-test.true, c.len-i-end.ensures) in
    record {
      agents = c.record_step.ensures.agents ∙ c.steps.invariant.agents;
      so_far = step_more _ _ _ _ _ c.steps.i c.read_into.new.step _ _ _ _ below c.read_into.ensures
          c.steps.invariant.so_far c.in_ok-record_step.ensures.shown;
    }

pub returns : goal.returns
returns g c =
    let all : length c.args.steps.now ≤ c.steps.i =
    omega (arith, c.steps-test.false, c.len-i-end.ensures) in
    all_steps _ _ _ _ _ c.steps.i _ _ _ all c.steps.invariant.so_far
    (c.in_ok-finish.ensures.marks ∙ ap (λ (r : Shown). r.signs) c.recorder-2.view_is)
    (c.in_ok-finish.ensures.lifelines
    ∙ ap (λ (r : Shown). heads_from 1 r.board.agents) c.recorder-2.view_is)
