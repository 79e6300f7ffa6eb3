use Rattle.std.proofs.Common.{rules}
use Rattle.scmi_core.specs.Asked.{Refused}
use Rattle.scmi_c.specs.Kept.{asked_of}
use Rattle.scmi_c.proofs.Answering.{some-and}
use Rattle.scmi_c.proofs.Keeping.{effect-is, effect-said}
use Rattle.scmi_c.proofs.settle.fail.Goals as goal

pub refuse-requires-clause-effect : goal.refuse-requires-clause-effect
refuse-requires-clause-effect c =
    let desk = c.desk.inside in
    effect-is desk.held desk.exchange.frame desk.waiting c.effect_of-effect.result (search rules)
    c.desk.invariant.0.asked c.effect_of-effect.ensures

pub returns-clause-driven : goal.returns-clause-driven
returns-clause-driven c =
    some-and c.args.fault c.in-Some.fault _ (search rules)
    (some-and c.args.desk.now.asked (asked_of c.desk.inside.exchange.frame c.desk.inside.waiting) _
    (search rules) (search rules))

pub returns-clause-said : goal.returns-clause-said
returns-clause-said c =
    let held = c.desk.inside.held in
    let frame = c.desk.inside.exchange.frame in
    let waiting = c.desk.inside.waiting in
    some-and c.args.fault c.in-Some.fault _ (search rules)
    (some-and c.args.desk.now.asked (asked_of frame waiting) _ (search rules)
    (effect-said held frame waiting c.effect_of-effect.result (search rules)
    c.desk.invariant.0.asked c.effect_of-effect.ensures
    (λ change. Refused change c.in-Some.fault) c.args.desk.now.held _ (search rules)))
