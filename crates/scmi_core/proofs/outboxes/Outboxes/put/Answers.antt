use Rattle.std.proofs.Common.{◌-◌, ◌<◌, length, length-set, sym, subst, ◌∙◌, arith}
use Rattle.scmi_codec.specs.declared.message.Message.{Message}
use Rattle.scmi_core.specs.Outboxes.{outbox_in}
use Rattle.scmi_core.proofs.Boxes.{few_after, pushed}
use Rattle.scmi_core.proofs.outboxes.Outboxes.put.Goals as goal

pub invariant_of-self : goal.invariant_of-self
invariant_of-self c =
    let outboxes = c.self.inside.each in
    let a = c.args.agent in
    let new = c.push.new.self in
    let message : Message =
    record { header = c.args.header; payload = record { items = c.args.words.now } } in
    let inside : a - 1 < length outboxes =
    omega (arith, c.requires.agent.0, c.requires.agent.1, c.self.invariant.each) in
    let room : length (outbox_in outboxes a) < 16 =
    subst (λ o. length (outbox_in o a) < 16) (sym c.self.view_is) c.requires.room in
    record {
      each = length-set outboxes (a - 1) new ∙ c.self.invariant.each;
      few = few_after outboxes (a - 1) new (pushed outboxes a c.index-self-agent.result new message
          inside room c.push.ensures) c.self.invariant.few;
    }
