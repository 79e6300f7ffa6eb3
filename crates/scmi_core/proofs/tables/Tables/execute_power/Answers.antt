use Rattle.std.proofs.Common.{◌∙◌, arith}
use Rattle.scmi_core.proofs.PowerSteps.{power-reply, power-stepped}
use Rattle.scmi_core.proofs.tables.Tables.execute_power.Goals as goal

pub returns-clause-reply : goal.returns-clause-reply
returns-clause-reply c =
    c.execute_into-done.ensures.reply
    ∙ power-reply c.args.plan.now c.args.self.now c.args.agent c.power_load-load.result
    c.args.command c.agents-agents.ensures.valid.few_domains
    c.power_load-load.ensures.busy c.power_load-load.ensures.room

pub returns-clause-stepped : goal.returns-clause-stepped
returns-clause-stepped c =
    let law = c.agents-agents.ensures.valid in
    let count = c.agents-agents.ensures.count in
    power-stepped c.args.plan.now c.args.self.now c.accept_state.new.self c.announce.new.self
    c.execute_into-done.new.self c.args.agent c.args.header c.args.command
    c.execute_into-done.new.reply.items c.execute_into-done.result.changed
    c.execute_into-done.result.later c.execute_into-done.result.differs
    law.few_domains law.few_agents c.requires.agent.0 c.requires.agent.1
    c.execute_into-done.ensures.changed c.execute_into-done.ensures.later
    c.execute_into-done.ensures.states c.execute_into-done.ensures.subscribed
    c.execute_into-done.ensures.known_now c.execute_into-done.ensures.known_later
    c.execute_into-done.ensures.differs
    c.accept_state.ensures.rest c.accept_state.ensures.pending c.announce.ensures.rest
    (λ x lo hi. c.announce.ensures.told x lo (omega (arith, count)))
