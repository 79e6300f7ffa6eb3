use Rattle.std.proofs.Common.{sym, ◌∙◌}
use Rattle.scmi_core.proofs.Ties.{long-answer, long-stepped, short-answer, short-stepped}
use Rattle.scmi_core.proofs.tables.Tables.answer_message.Goals as goal

pub returns-then-fits_channel-clause-answer : goal.returns-then-fits_channel-clause-answer
returns-then-fits_channel-clause-answer c =
    short-answer c.args.plan.now c.args.self.now c.args.agent c.args.message.now _
    (sym c.fits_channel.ensures ∙ c.if-fits_channel.true)
    (rw c.read_command-command.ensures at c.execute.ensures.reply)

pub returns-then-fits_channel-clause-stepped : goal.returns-then-fits_channel-clause-stepped
returns-then-fits_channel-clause-stepped c =
    short-stepped c.args.plan.now c.args.self.now c.execute.new.self c.args.agent c.args.message.now
    _ (sym c.fits_channel.ensures ∙ c.if-fits_channel.true)
    (rw c.read_command-command.ensures at c.execute.ensures.reply)
    (rw c.read_command-command.ensures at c.execute.ensures.stepped)

pub returns-else-fits_channel-clause-answer : goal.returns-else-fits_channel-clause-answer
returns-else-fits_channel-clause-answer c =
    long-answer c.args.plan.now c.args.self.now c.args.agent c.args.message.now
    (sym c.fits_channel.ensures ∙ c.if-fits_channel.false)

pub returns-else-fits_channel-clause-stepped : goal.returns-else-fits_channel-clause-stepped
returns-else-fits_channel-clause-stepped c =
    long-stepped c.args.plan.now c.args.self.now c.args.agent c.args.message.now
    (sym c.fits_channel.ensures ∙ c.if-fits_channel.false)
