use Rattle.std.proofs.Common.{◌<◌, ◌-◌, length, length-set, ◌∙◌, arith}
use Rattle.scmi_c.proofs.Places.{any-set}
use Rattle.scmi_c.proofs.aside.Aside.put.Goals as goal

pub returns-in-Good-clause-marked : goal.returns-in-Good-clause-marked
returns-in-Good-clause-marked c =
    let within : c.args.agent - 1 < length c.args.self.now.slots =
    omega (arith, c.requires.marked.places, c.requires.agent.0, c.requires.agent.1) in
    record {
      places = length-set c.args.self.now.slots (c.args.agent - 1) _ ∙ c.requires.marked.places;
      any = any-set c.args.self.now.slots (c.args.agent - 1) _ within c.fill.ensures.used;
    }
