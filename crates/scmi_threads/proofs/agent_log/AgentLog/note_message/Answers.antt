use Rattle.std.proofs.Common.{◌∷◌, ◌++◌, [], refl, ap, ◌∙◌}
use Rattle.scmi_link.specs.declared.line.Line.TheVariants as line
use Rattle.scmi_link.proofs.LineLemmas.{closing_stays, messages_grow}
use Rattle.scmi_threads.proofs.agent_log.AgentLog.note_message.Goals as goal

pub invariant_of-self-clause-messages_are : goal.invariant_of-self-clause-messages_are
invariant_of-self-clause-messages_are c = messages_grow c.args.self.now.lines.items
    c.push_reserved.new.self.items c.args.frame c.args.self.now.p2a.items
    c.push_reserved-2.new.self.items c.args.self.now.messages_are (c.push_reserved.ensures.items
    ∙ ap (λ frame. c.args.self.now.lines.items ++ line.P2a frame ∷ []) c.copy.ensures)
    c.push_reserved-2.ensures.items

pub invariant_of-self-clause-closing_is : goal.invariant_of-self-clause-closing_is
invariant_of-self-clause-closing_is c = closing_stays c.args.self.now.lines.items
    c.push_reserved.new.self.items (line.P2a c.copy.result) c.args.self.now.closing
    c.args.self.now.closing_is refl c.push_reserved.ensures.items
