use Rattle.std.proofs.Common.{rules}
use Rattle.scmi_threads.proofs.Looking.{wait_counted}
use Rattle.scmi_threads.proofs.script_run.ScriptRun.await_reply.Goals as goal

pub invariant_of-self-in-Got-clause-replies_looked :
    goal.invariant_of-self-in-Got-clause-replies_looked
invariant_of-self-in-Got-clause-replies_looked g c =
    wait_counted c.wait_counted-waited.result.answer c.wait_counted-waited.result.looks
    c.args.self.now.log.reply_looks c.note_read.new.self.reply_looks c.args.self.now.end.caller
    c.wait_counted-waited.new.self.caller c.wait_counted-waited.ensures.looks
    c.args.self.now.replies_looked (search rules)

pub invariant_of-self-in-Closed-clause-replies_looked :
    goal.invariant_of-self-in-Closed-clause-replies_looked
invariant_of-self-in-Closed-clause-replies_looked g c =
    wait_counted c.wait_counted-waited.result.answer
    c.wait_counted-waited.result.looks c.args.self.now.log.reply_looks _ c.args.self.now.end.caller
    c.wait_counted-waited.new.self.caller c.wait_counted-waited.ensures.looks
    c.args.self.now.replies_looked (search rules)

pub invariant_of-self-in-Nothing-clause-replies_looked :
    goal.invariant_of-self-in-Nothing-clause-replies_looked
invariant_of-self-in-Nothing-clause-replies_looked g c =
    wait_counted c.wait_counted-waited.result.answer c.wait_counted-waited.result.looks
    c.args.self.now.log.reply_looks _ c.args.self.now.end.caller
    c.wait_counted-waited.new.self.caller c.wait_counted-waited.ensures.looks
    c.args.self.now.replies_looked (search rules)
