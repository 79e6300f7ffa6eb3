use Rattle.std.proofs.Common.{◌≡◌, ◌≢◌, ℕ, ◌+◌, ◌≤◌, length, sym, ap, ◌∙◌, subst, arith}
use Rattle.scmi_plan.specs.Agent.{IsAgent}
use Rattle.scmi_ends.specs.ControllerView.{callee_of}
use Rattle.scmi_laws.specs.Round.{IsCommand, IsServedOnce}
use Rattle.scmi_laws.proofs.RoundCalls.{on-same, one-by-one, serves-callers, serves-on, serves-other, serves-own}
use Rattle.scmi_laws.proofs.rounds.serve_each.Goals as goal
use Rattle.scmi_laws.proofs.rounds.serve_each.Goals.{In_ok-serve_on}

module _ (g : _) (c : In_ok-serve_on g) where
  is_agent : IsAgent (length c.served.platform.board.agents) c.served.agent
  is_agent =
      let now = ap (λ b. length b.agents) c.served.invariant.board in
      let here = ap (λ b. length b.agents) c.core.ensures.board in (
        omega (arith, c.served.auto.agent),
        omega (
          arith,
          now,
          here,
          c.served-test.true,
          c.served.auto.agent-end,
          c.agents-agents.ensures.count,
        ),
      )

  others : (b : ℕ) → 1 ≤ b → b ≢ c.served.agent
      → callee_of c.serve_on.new.self b ≡ callee_of c.served.platform b
  others = serves-other c.in_ok-serve_on.ensures.serves c.serve_on.ensures.agrees is_agent

  own : IsServedOnce (callee_of c.served.platform c.served.agent)
      (callee_of c.serve_on.new.self c.served.agent)
  own = serves-own c.in_ok-serve_on.ensures.serves c.serve_on.ensures.agrees is_agent

pub served-preserved : goal.served-preserved
served-preserved g c =
    let old = c.args.platform.now in
    let now = c.serve_on.new.self in
    let kept = c.served.invariant in
    let a = c.served.agent in
    let one : 1 ≤ a = (is_agent g c).0 in
    let serves = c.in_ok-serve_on.ensures.serves in
    let agrees = c.serve_on.ensures.agrees in
    record {
      links = c.serve_on.ensures.links;
      agrees = λ more. agrees;
      board = c.serve_on.ensures.board ∙ kept.board;
      callers = serves-callers serves agrees (is_agent g c) ∙ kept.callers;
      made = λ before made. c.serve_on.ensures.made before (kept.made before made);
      commands = serves-on serves agrees (is_agent g c) old.history kept.commands;
      answered =
          one-by-one (λ b. IsServedOnce (callee_of old b) (callee_of c.served.platform b))
          (λ b. IsServedOnce (callee_of old b) (callee_of now b)) a kept.answered
          (λ b from differ had.
          subst (IsServedOnce (callee_of old b)) (sym (others g c b from differ)) had)
          (subst (λ v. IsServedOnce v (callee_of now a)) (kept.others a (omega arith)) (own g c));
      others = λ b from.
          let first : 1 ≤ b = omega arith in
          let differ : b ≢ a = omega arith in
          let still : a ≤ b = omega arith in
          others g c b first differ ∙ kept.others b still;
    }

pub returns-in_err-serve_on-clause-commands : goal.returns-in_err-serve_on-clause-commands
returns-in_err-serve_on-clause-commands g c =
    let n = length c.args.platform.now.board.agents in
    let here : length c.core.result.now.board.agents ≡ n
    = ap (λ b. length b.agents) c.core.ensures.board in
    let below : c.served.agent ≤ n + 1
    = omega (arith, c.served-test.true, c.served.auto.agent-end, c.agents-agents.ensures.count) in
    on-same IsCommand c.served.agent (n + 1) c.args.platform.now.history c.served.platform.history
    c.serve_on.new.self.history below c.served.invariant.commands
    (ap (λ v. v.history) c.in_err-serve_on.ensures.err)
