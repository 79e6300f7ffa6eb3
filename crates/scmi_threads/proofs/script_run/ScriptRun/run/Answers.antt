use Rattle.std.proofs.Common.{◌≡◌, ◌∙◌, ℕ, ◌+◌, ◌-◌, ◌^◌, ◌<◌, ◌≤◌, min, length, take, drop, refl, sym, arith, rules, subst}
use Rattle.std.proofs.lemmas.List.{length-take}
use Rattle.scmi_threads.specs.ScriptLogs.{line_number}
use Rattle.scmi_threads.proofs.ScriptRunLemmas.{has_run}
use Rattle.scmi_threads.proofs.ScriptLemmas.{HasFollowed, nothing_followed, followed_more, followed_to, followed_all, take_next, all_orders, whole, asked_more}
use Rattle.scmi_threads.proofs.script_run.ScriptRun.run.Goals as goal

pub orders-init : goal.orders-init
orders-init g c = record {
  ran = record { a2p = refl; p2a = refl; script = refl; id = refl; undisturbed = λ u. u };
  followed = λ empty new u.
      nothing_followed g.C.Channel.FULL c.args.self.now.end.caller c.args.self.now.log empty new;
  line = refl;
  gate = λ k below. absurd (omega (arith, below));
}

next_line : (i line next : ℕ) → line ≡ min i (2 ^ 32 - 1) → next ≡ min (line + 1) (2 ^ 32 - 1)
    → next ≡ line_number i
next_line i line next is more = omega (arith, is, more)

-- the gate was asked before this line too
asked_now : (asked : ℕ → ℕ → Type 0) (id own i line next : ℕ) → line ≡ min i (2 ^ 32 - 1)
    → next ≡ min (line + 1) (2 ^ 32 - 1) → own ≡ id → ((k : ℕ) → k < i → asked id (line_number k))
    → asked own next → (k : ℕ) → k < i + 1 → asked id (line_number k)
asked_now asked id own i line next is more same before now = asked_more (asked id) i before
    (subst (asked id) (next_line i line next is more) (subst (λ n. asked n next) same now))

pub orders-preserved : goal.orders-preserved
orders-preserved g c =
    let script = c.args.self.now.script.now in
    let i = c.orders.order-index in
    let order = c.order-item.result in
    let mid = c.orders.self in
    let after = c.step.new.self in
    record {
      ran = has_run c.args.self.now mid after c.orders.invariant.ran c.step.ensures.ran;
      followed = λ empty new u.
          let f = c.orders.invariant.followed empty new (c.step.ensures.ran.undisturbed u) in
          subst (λ orders. HasFollowed g.C.Channel.FULL orders after.end.caller after.log)
          (take_next script i order c.orders-test.true c.order-item.is)
          (followed_more g.C.Channel.FULL (take i script) order mid.end.caller after.end.caller
          mid.log after.log f (c.in_default.ensures.done u f.rest));
      line = next_line i c.orders.line c.saturating_add-line.result c.orders.invariant.line
          c.saturating_add-line.ensures;
      gate = asked_now
          (g.G.Gate.asked c.args.gate.now) c.args.self.now.end.id c.id.result i c.orders.line
          c.saturating_add-line.result c.orders.invariant.line c.saturating_add-line.ensures
          (c.id.ensures ∙ c.orders.invariant.ran.id) c.orders.invariant.gate (search rules);
    }

pub returns-in-Err : goal.returns-in-Err
returns-in-Err g c =
    let script = c.args.self.now.script.now in
    let i = c.orders.order-index in
    let order = c.order-item.result in
    let mid = c.orders.self in
    let after = c.step.new.self in
    let ran = has_run c.args.self.now mid after c.orders.invariant.ran c.step.ensures.ran in
    record {
      ran = record {
        a2p = ran.a2p;
        p2a = ran.p2a;
        script = ran.script;
        id = ran.id;
        undisturbed = ran.undisturbed;
      };
      log = λ empty new u.
          let f = c.orders.invariant.followed empty new (c.step.ensures.ran.undisturbed u) in
          followed_to g.C.Channel.FULL (g.G.Gate.asked c.args.gate.now c.args.self.now.end.id)
          script (take i script) (drop (i + 1) script) order c.in-Err.stop mid.end.caller
          after.end.caller mid.log after.log _ (all_orders script i order c.orders-test.true
          c.order-item.is) f (c.in-Err.ensures.done u f.rest) refl refl refl refl
          (record { replies = refl; messages = refl }) refl
          (λ k below. asked_now
          (g.G.Gate.asked c.args.gate.now) c.args.self.now.end.id c.id.result i c.orders.line
          c.saturating_add-line.result c.orders.invariant.line c.saturating_add-line.ensures
          (c.id.ensures ∙ c.orders.invariant.ran.id) c.orders.invariant.gate (search rules) k
          (omega (arith, below, length-take i script, c.orders-test.true)));
    }

pub returns : goal.returns
returns g c =
    let script = c.args.self.now.script.now in
    let i = c.orders.order-index in
    let after = c.orders.self in
    record {
      ran = c.orders.invariant.ran;
      log = λ empty new u.
          let all : length script ≤ i = omega (arith, c.orders-test.false) in
          followed_all g.C.Channel.FULL (g.G.Gate.asked c.args.gate.now c.args.self.now.end.id)
          script after.end.caller after.log
          (subst (λ orders. HasFollowed g.C.Channel.FULL orders after.end.caller after.log)
          (whole script i all) (c.orders.invariant.followed empty new u))
          (λ k below. c.orders.invariant.gate k (omega (arith, below, all)));
    }
