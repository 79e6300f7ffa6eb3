use Rattle.scmi_link.proofs.LineLemmas.{closing_stays, messages_stay}
use Rattle.scmi_threads.proofs.agent_log.AgentLog.note.Goals as goal

pub invariant_of-self-clause-messages_are : goal.invariant_of-self-clause-messages_are
invariant_of-self-clause-messages_are c = messages_stay
    c.args.self.now.lines.items c.push_reserved.new.self.items c.args.line c.args.self.now.p2a.items
    c.args.self.now.messages_are c.requires.of_call.no_message c.push_reserved.ensures.items

pub invariant_of-self-clause-closing_is : goal.invariant_of-self-clause-closing_is
invariant_of-self-clause-closing_is c = closing_stays c.args.self.now.lines.items
    c.push_reserved.new.self.items c.args.line c.args.self.now.closing c.args.self.now.closing_is
    c.requires.of_call.no_closing c.push_reserved.ensures.items
