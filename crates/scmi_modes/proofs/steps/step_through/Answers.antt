use Rattle.std.proofs.Common.{◌∙◌, ◌<◌, ◌≤◌, inl, inr, ap, length, arith, refl}
use Rattle.scmi_modes.proofs.RunLemmas.{all_steps, first_steps, no_step, step_more}
use Rattle.scmi_modes.proofs.steps.step_through.Goals as goal

pub steps-init : goal.steps-init
steps-init g c = record {
  agents = c.in_ok-session.ensures.new.count;
  so_far = no_step _ _ _ _ _ c.in_ok-session.ensures.new;
}

pub steps-preserved : goal.steps-preserved
steps-preserved g c =
    let below : c.steps.i < length c.args.steps.now =
    omega (arith, c.steps-test.true, c.len-i-end.ensures) in
    record {
      agents = c.step.ensures.agents ∙ c.steps.invariant.agents;
      so_far =
          step_more _ _ _ _ c.steps.i c.read_into.new.step _ _ _ _ _ _ below c.read_into.ensures
          c.steps.invariant.so_far c.in_ok-step.ensures.steps c.in_ok-write_line.ensures.text;
    }

pub returns-in_err-session-clause-memory : goal.returns-in_err-session-clause-memory
returns-in_err-session-clause-memory g c = λ memory. inl refl

pub returns-in_err-step-clause-memory : goal.returns-in_err-step-clause-memory
returns-in_err-step-clause-memory g c =
    λ memory. inr (first_steps _ _ _ _ c.steps.i _ _ _ c.steps.invariant.so_far)

pub returns-clause-text : goal.returns-clause-text
returns-clause-text g c =
    let all : length c.args.steps.now ≤ c.steps.i =
    omega (arith, c.steps-test.false, c.len-i-end.ensures) in
    all_steps _ _ _ _ _ c.steps.i _ _ _ _ _ all c.steps.invariant.so_far c.retire.ensures.gathered
    (c.len-events.ensures ∙ ap length c.retire.ensures.history) c.write_line-2.ensures.text
