use Rattle.std.proofs.Common.{◌∙◌}
use Rattle.scmi_core.proofs.ClockSteps.{clock-reply, clock-stepped}
use Rattle.scmi_core.proofs.tables.Tables.execute_clock.Goals as goal

pub returns-clause-reply : goal.returns-clause-reply
returns-clause-reply c =
    c.execute_into-later.ensures.reply
    ∙ clock-reply c.args.plan.now c.args.self.now c.args.agent c.clock_load-load.result
    c.args.command c.requires.valid.few_clocks
    c.clock_load-load.ensures.busy c.clock_load-load.ensures.room

pub returns-clause-stepped : goal.returns-clause-stepped
returns-clause-stepped c =
    let law = c.requires.valid in
    clock-stepped c.args.plan.now c.args.self.now c.accept_rate.new.self
    c.execute_into-later.new.self c.args.agent c.args.header c.args.command
    c.execute_into-later.new.reply.items c.execute_into-later.result
    law.few_clocks c.requires.agent.0 c.requires.agent.1
    c.execute_into-later.ensures.later c.execute_into-later.ensures.rates
    c.execute_into-later.ensures.enabled
    c.execute_into-later.ensures.known_later
    (c.execute_into-later.ensures.known_now, c.execute_into-later.ensures.known_enabled)
    c.accept_rate.ensures.rest c.accept_rate.ensures.pending
