use Rattle.std.proofs.Common.{◌≡◌, ◌≤◌, List, length, vec_len, ap, sym, ◌∙◌, subst, arith, rules}
use Rattle.std.specs.List.{All}
use Rattle.scmi_core.specs.Legal.{IsLegal}
use Rattle.scmi_plan.specs.Board.{Board}
use Rattle.scmi_plan.specs.RawPlan.{asked_board}
use Rattle.scmi_text.specs.Step.{IsStepOf}
use Rattle.scmi_text.specs.declared.step.Step.{Step}
use Rattle.scmi_chart.proofs.Histories.{shows_outcome, steps_of_board}
use Rattle.scmi_chart.proofs.threads.draw_agents.Goals as goal

pub draw_steps-requires-clause-agents : goal.draw_steps-requires-clause-agents
draw_steps-requires-clause-agents g c κs within =
    let h = c.in_ok-outcome.outcome.trace.events in
    let board = asked_board c.args.board.now in
    let legal : IsLegal board h =
    subst (λ (b : Board). IsLegal b h) c.in_ok-plan.ensures.ok c.in_ok-outcome.ensures.legal in
    let count : vec_len c.in_ok-outcome.outcome.logs ≡ length board.agents =
    c.in_ok-outcome.ensures.count
    ∙ ap (λ (b : Board). length b.agents) c.in_ok-plan.ensures.ok in
    let few : length c.deref.result.now ≤ length board.agents =
    omega (arith, count, c.deref.ensures.len) in
    let all : All (IsStepOf (length board.agents)) c.deref-2.result.now = subst
    (λ (ss : List Step). All (IsStepOf (length board.agents)) ss) (sym (c.deref-2.ensures.value
    ∙ c.in_ok-steps.ensures)) (steps_of_board board h c.deref.result.now legal few) in
    subst (λ (b : Board). All (IsStepOf (length b.agents)) c.deref-2.result.now)
    (sym c.in_ok-check.ensures.ok) all

pub returns : goal.returns
returns g c =
    let few : length c.in_ok-steps.steps.items ≤ 2000 = search rules in
    shows_outcome _ _ c.in_ok-plan.plan c.in_ok-check.field-0
    (asked_board c.args.board.now) c.args.scripts.now c.in_ok-outcome.outcome c.deref.result.now
    c.in_ok-steps.steps.items c.deref-2.result.now c.draw_steps.result c.in_ok-plan.ensures.ok
    c.in_ok-check.ensures.ok c.in_ok-outcome.ensures.legal c.in_ok-outcome.ensures.count
    c.in_ok-outcome.ensures.scripts c.in_ok-outcome.ensures.headline c.deref.ensures.value
    c.in_ok-steps.ensures c.deref-2.ensures.value few c.draw_steps.ensures
