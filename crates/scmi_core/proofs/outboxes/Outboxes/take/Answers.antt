use Rattle.std.proofs.Common.{◌-◌, ◌<◌, length, length-set, ◌∙◌, arith}
use Rattle.scmi_core.proofs.Boxes.{few_after, popped}
use Rattle.scmi_core.proofs.outboxes.Outboxes.take.Goals as goal

pub invariant_of-self : goal.invariant_of-self
invariant_of-self c =
    let outboxes = c.self.inside.each in
    let a = c.args.agent in
    let new = c.pop.new.self in
    let inside : a - 1 < length outboxes =
    omega (arith, c.requires.agent.0, c.requires.agent.1, c.self.invariant.each) in
    record {
      each = length-set outboxes (a - 1) new ∙ c.self.invariant.each;
      few = few_after outboxes (a - 1) new (popped outboxes a c.index-self-agent.result new inside
          (c.self.invariant.few a) c.pop.ensures) c.self.invariant.few;
    }
