use Rattle.std.proofs.Common.{◌∙◌, ap, sym, unwrap_or}
use Rattle.scmi_base.specs.Permission.{is_allowed_after, reset_after}
use Rattle.scmi_power.specs.PowerTable.{is_subscribed}
use Rattle.scmi_core.specs.Subscriptions.{subscription_after_reset}
use Rattle.scmi_core.specs.Reply.{reply_words}
use Rattle.scmi_core.proofs.ClockSteps.{base-stepped}
use Rattle.scmi_core.proofs.tables.Tables.execute_base.Goals as goal

pub returns-clause-reply : goal.returns-clause-reply
unfolding reply_words
returns-clause-reply c = c.execute_into-reset.ensures.reply

pub returns-clause-stepped : goal.returns-clause-stepped
returns-clause-stepped c =
    let reply = c.execute_into-reset.ensures.reply in
    let done = c.end_requests.ensures in
    base-stepped c.args.plan.now c.args.self.now c.end_requests.new.self
    c.execute_into-reset.new.self c.args.agent c.args.header c.args.command
    c.execute_into-reset.new.reply.items
    (λ x d scope lo small. c.execute_into-reset.ensures.allowed x d scope lo small
    ∙ ap (λ r. is_allowed_after c.args.plan.now r x d scope c.args.command c.args.self.now.base)
    (sym reply))
    (λ x d lo hi small. done.subscriptions x d lo hi small ∙ ap
    (λ r. unwrap_or (subscription_after_reset x r) (is_subscribed c.args.self.now.power x d))
    (c.execute_into-reset.ensures.reset ∙ ap (λ r. reset_after r c.args.command) (sym reply)))
    done.states done.base done.clocks done.pending done.outboxes
