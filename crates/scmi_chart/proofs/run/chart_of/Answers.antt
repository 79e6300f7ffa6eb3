use Rattle.scmi_board.specs.BoardLines.{described}
use Rattle.scmi_chart.proofs.Inputs.{steps_of_plan}
use Rattle.scmi_chart.proofs.run.chart_of.Goals as goal

pub step_through-requires-clause-agents : goal.step_through-requires-clause-agents
step_through-requires-clause-agents c κs = steps_of_plan (described c.in_ok-said.said)
    c.in_ok-plan.plan c.in_ok-said.steps c.in_ok-plan.ensures.ok c.in_ok-said.ensures.agents

pub step_through-requires-in-Words-clause-agents : goal.step_through-requires-in-Words-clause-agents
step_through-requires-in-Words-clause-agents c κs = steps_of_plan (described c.in_ok-said.said)
    c.in_ok-plan.plan c.in_ok-said.steps c.in_ok-plan.ensures.ok c.in_ok-said.ensures.agents
