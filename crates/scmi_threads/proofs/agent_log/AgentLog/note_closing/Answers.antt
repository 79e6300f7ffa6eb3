use Rattle.std.proofs.Common.{refl}
use Rattle.scmi_link.specs.declared.line.Line.TheVariants as line
use Rattle.scmi_link.proofs.LineLemmas.{closing_push, messages_stay}
use Rattle.scmi_threads.proofs.agent_log.AgentLog.note_closing.Goals as goal

pub invariant_of-self-clause-messages_are : goal.invariant_of-self-clause-messages_are
invariant_of-self-clause-messages_are c = messages_stay c.args.self.now.lines.items
    c.push_reserved.new.self.items (line.Close c.args.closing) c.args.self.now.p2a.items
    c.args.self.now.messages_are refl c.push_reserved.ensures.items

pub invariant_of-self-clause-closing_is : goal.invariant_of-self-clause-closing_is
invariant_of-self-clause-closing_is c = closing_push c.args.self.now.lines.items
    c.push_reserved.new.self.items c.args.closing c.args.self.now.closing _
    c.args.self.now.closing_is c.or-self.ensures c.push_reserved.ensures.items
