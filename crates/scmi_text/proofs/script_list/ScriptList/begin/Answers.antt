use Rattle.std.proofs.Common.{nat_eq, refl}
use Rattle.std.specs.List.{list_any}
use Rattle.std.proofs.lemmas.Cmp.{nat_eq_equiv}
use Rattle.std.proofs.lemmas.Map.Keys.{IsDistinct-push}
use Rattle.scmi_text.specs.Scripts.{agents_of}
use Rattle.scmi_text.proofs.ScriptAgents.{agents_pushed, begun_before, within_more, begun_more, not_begun}
use Rattle.scmi_text.proofs.ScriptTexts.{script_again, script_more}
use Rattle.scmi_text.proofs.script_list.ScriptList.begin.Goals as goal

pub invariant_of-self-2 : goal.invariant_of-self-2
invariant_of-self-2 c =
    let before = c.args.self.now in
    let had = agents_of before.scripts.items in
    let agent = c.args.agent in
    let agents = agents_pushed before.scripts.items c.reserve.new.self.items
    c.push_reserved.new.self.items (record { agent = agent; lines = c.new.result })
    c.in_ok-reserve.ensures.items c.push_reserved.ensures.items in
    let fresh = not_begun c.in-Ok.is_first _ (list_any (nat_eq agent) had) c.in-Ok.ensures.added
    c.if-not-is_first.false (before.begun_are agent) in
    record {
      within = rw agents (within_more before.agents had agent before.within c.requires);
      begun_are = λ q. rw agents (begun_more before.begun c.insert.new.self had agent
          c.in-Ok.ensures.updates before.begun_are q);
      distinct = rw agents (IsDistinct-push nat_eq_equiv had agent before.distinct fresh);
    }

pub returns-then-not-is_first-clause-script : goal.returns-then-not-is_first-clause-script
returns-then-not-is_first-clause-script c =
    let before = c.args.self.now in
    let agent = c.args.agent in
    script_again before.scripts.items agent
    (begun_before c.in-Ok.is_first _ (list_any (nat_eq agent) (agents_of before.scripts.items))
    c.in-Ok.ensures.added c.if-not-is_first.true (before.begun_are agent))

pub returns-clause-script : goal.returns-clause-script
returns-clause-script c =
    let before = c.args.self.now in
    let agent = c.args.agent in
    let fresh =
    not_begun c.in-Ok.is_first _ (list_any (nat_eq agent) (agents_of before.scripts.items))
    c.in-Ok.ensures.added c.if-not-is_first.false (before.begun_are agent) in
    script_more before.scripts.items c.reserve.new.self.items c.push_reserved.new.self.items agent
    (record { agent = agent; lines = c.new.result }) c.in_ok-reserve.ensures.items
    c.push_reserved.ensures.items refl c.new.ensures.items fresh
