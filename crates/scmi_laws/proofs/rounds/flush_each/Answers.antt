use Rattle.std.proofs.Common.{◌≡◌, ◌≢◌, ℕ, ◌+◌, ◌≤◌, length, sym, ap, ◌∙◌, subst, arith}
use Rattle.scmi_plan.specs.Agent.{IsAgent}
use Rattle.scmi_core.specs.History.{outbox}
use Rattle.scmi_ends.specs.ControllerView.{caller_of}
use Rattle.scmi_laws.specs.Round.{HasPostedAll, IsFlushedOnce, IsOrderly, IsPosting}
use Rattle.scmi_laws.proofs.RoundCalls.{flushes-all, flushes-callees, flushes-kept, flushes-on, flushes-orderly, flushes-other, flushes-own, on-same, one-by-one, posted-other}
use Rattle.scmi_laws.proofs.rounds.flush_each.Goals as goal
use Rattle.scmi_laws.proofs.rounds.flush_each.Goals.{In_ok-flush}

module _ (g : _) (c : In_ok-flush g) where
  is_agent : IsAgent (length c.flushed.platform.board.agents) c.flushed.agent
  is_agent =
      let now = ap (λ b. length b.agents) c.flushed.invariant.board in
      let here = ap (λ b. length b.agents) c.core.ensures.board in (
        omega (arith, c.flushed.auto.agent),
        omega (
          arith,
          now,
          here,
          c.flushed-test.true,
          c.flushed.auto.agent-end,
          c.agents-agents.ensures.count,
        ),
      )

  others : (b : ℕ) → 1 ≤ b → b ≢ c.flushed.agent
      → caller_of c.flush.new.self b ≡ caller_of c.flushed.platform b
  others = flushes-other c.in_ok-flush.ensures.flushes c.flush.ensures.agrees is_agent

  -- no other agent's outbox
  others_posted : (b : ℕ) → 1 ≤ b → b ≢ c.flushed.agent
      → HasPostedAll g.C.Channel.FULL c.args.platform.now.board b c.flushed.platform.history
      (caller_of c.flushed.platform b)
      → HasPostedAll g.C.Channel.FULL c.args.platform.now.board b c.flush.new.self.history
      (caller_of c.flush.new.self b)
  others_posted b from differ had =
      let full = g.C.Channel.FULL in
      let board = c.args.platform.now.board in
      let now = c.flush.new.self in
      let same = subst (λ it. outbox it b now.history ≡ outbox it b c.flushed.platform.history)
      c.flushed.invariant.board
      (flushes-kept c.in_ok-flush.ensures.flushes c.flush.ensures.agrees is_agent b differ) in
      subst (HasPostedAll full board b now.history) (sym (others b from differ))
      (posted-other full board c.flushed.platform.history now.history b
      (caller_of c.flushed.platform b) same had)

pub flushed-preserved : goal.flushed-preserved
flushed-preserved g c =
    let full = g.C.Channel.FULL in
    let old = c.args.platform.now in
    let was = c.flushed.platform in
    let now = c.flush.new.self in
    let kept = c.flushed.invariant in
    let a = c.flushed.agent in
    let one : 1 ≤ a = (is_agent g c).0 in
    let same = kept.others a (omega arith) in
    let flushes = c.in_ok-flush.ensures.flushes in
    let agrees = c.flush.ensures.agrees in
    record {
      links = c.flush.ensures.links;
      agrees = λ more. agrees;
      board = c.flush.ensures.board ∙ kept.board;
      callees = flushes-callees flushes agrees (is_agent g c) ∙ kept.callees;
      made = c.flush.ensures.made ∙ kept.made;
      postings = flushes-on flushes agrees (is_agent g c) old.history kept.postings;
      flushed =
          one-by-one (λ b. IsFlushedOnce (caller_of old b) (caller_of was b))
          (λ b. IsFlushedOnce (caller_of old b) (caller_of now b)) a kept.flushed
          (λ b from differ had.
          subst (IsFlushedOnce (caller_of old b)) (sym (others g c b from differ)) had)
          (subst (λ v. IsFlushedOnce v (caller_of now a)) same
          (flushes-own flushes agrees (is_agent g c)));
      posted =
          one-by-one
          (λ b. IsOrderly (caller_of old b)
          → HasPostedAll full old.board b was.history (caller_of was b))
          (λ b. IsOrderly (caller_of old b)
          → HasPostedAll full old.board b now.history (caller_of now b)) a kept.posted
          (λ b from differ had is. others_posted g c b from differ (had is))
          (λ is.
          subst (λ it. HasPostedAll full it a now.history (caller_of now a)) kept.board
          (flushes-all flushes agrees (is_agent g c) (subst IsOrderly (sym same) is)));
      orderly =
          one-by-one (λ b. IsOrderly (caller_of old b) → IsOrderly (caller_of was b))
          (λ b. IsOrderly (caller_of old b) → IsOrderly (caller_of now b)) a kept.orderly
          (λ b from differ had is. subst IsOrderly (sym (others g c b from differ)) (had is))
          (λ is. flushes-orderly flushes agrees (is_agent g c) (subst IsOrderly (sym same) is));
      others = λ b from.
          let first : 1 ≤ b = omega arith in
          let differ : b ≢ a = omega arith in
          let still : a ≤ b = omega arith in
          others g c b first differ ∙ kept.others b still;
    }

pub returns-in_err-flush-clause-postings : goal.returns-in_err-flush-clause-postings
returns-in_err-flush-clause-postings g c =
    let n = length c.args.platform.now.board.agents in
    let here : length c.core.result.now.board.agents ≡ n
    = ap (λ b. length b.agents) c.core.ensures.board in
    let below : c.flushed.agent ≤ n + 1
    = omega (arith, c.flushed-test.true, c.flushed.auto.agent-end, c.agents-agents.ensures.count) in
    on-same IsPosting c.flushed.agent (n + 1) c.args.platform.now.history c.flushed.platform.history
    c.flush.new.self.history below c.flushed.invariant.postings
    (ap (λ v. v.history) c.in_err-flush.ensures.err)
