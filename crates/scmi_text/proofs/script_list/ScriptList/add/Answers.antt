use Rattle.std.proofs.Common.{refl, ◌-◌, ◌<◌, ◌≡◌, true, false, arith}
use Rattle.std.specs.Vec.{vec_len}
use Rattle.scmi_text.proofs.ScriptAgents.{same_agents}
use Rattle.scmi_text.proofs.ScriptTexts.{order_more, order_nowhere}
use Rattle.scmi_text.proofs.script_list.ScriptList.add.Goals as goal

pub invariant_of-self-2 : goal.invariant_of-self-2
invariant_of-self-2 c =
    let before = c.args.self.now in
    let same = same_agents before.scripts.items (vec_len before.scripts - 1)
    (record { agent = c.in-Some.script.now.agent; lines = c.push.new.self })
    c.in-Some.script.now c.in-Some.ensures.value refl in
    record {
      within = rw same before.within;
      begun_are = rw same before.begun_are;
      distinct = rw same before.distinct;
    }

pub returns-in_default-clause-order : goal.returns-in_default-clause-order
returns-in_default-clause-order c =
    order_nowhere c.args.self.now.scripts.items c.args.order (λ some. let is : false ≡ true =
    c.in_default.ensures.variant.1 (omega (arith, some, c.args.self.now.scripts.ok.0)) in absurd cc)

pub returns-clause-order : goal.returns-clause-order
returns-clause-order c =
    let before = c.args.self.now in
    let some : 0 < vec_len before.scripts = c.in-Some.ensures.variant.0 refl in
    order_more before.scripts.items (vec_len before.scripts - 1) c.in-Some.script.now
    (record { agent = c.in-Some.script.now.agent; lines = c.push.new.self }) c.args.order (omega
    (arith, some, before.scripts.ok.0)) c.in-Some.ensures.value refl c.in-Ok.ensures.items
