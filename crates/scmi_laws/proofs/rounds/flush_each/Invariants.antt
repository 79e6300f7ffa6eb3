use Rattle.std.proofs.Common.{◌≡◌, ℕ, ◌<◌, ◌≤◌}
use Rattle.scmi_core.specs.Driven.{asks}
use Rattle.scmi_ends.specs.Agreement.{IsInStep}
use Rattle.scmi_ends.specs.ControllerView.{caller_of}
use Rattle.scmi_ends.specs.Links.{HasLinks}
use Rattle.scmi_laws.specs.Round.{AddsAtMostOneEach, HasPostedAll, IsFlushedOnce, IsOrderly, IsPosting}
use Rattle.scmi_laws.proofs.rounds.flush_each.Given as goal

abbrev pub invariant-flushed : goal.invariant-flushed
invariant-flushed g l = record {
  links : HasLinks g.C.Channel.identity l.links l.platform;
  agrees : 1 < l.agent → IsInStep l.platform;
  board : l.platform.board ≡ l.fn.platform.board;
  callees : l.platform.callees ≡ l.fn.platform.callees;
  made : asks l.platform.board l.platform.history ≡ asks l.fn.platform.board l.fn.platform.history;
  postings : AddsAtMostOneEach IsPosting l.agent l.fn.platform.history l.platform.history;
  flushed : (a : ℕ) → 1 ≤ a → a < l.agent
      → IsFlushedOnce (caller_of l.fn.platform a) (caller_of l.platform a);
  posted : (a : ℕ) → 1 ≤ a → a < l.agent → IsOrderly (caller_of l.fn.platform a)
      → HasPostedAll g.C.Channel.FULL l.fn.platform.board a l.platform.history
      (caller_of l.platform a);
  orderly : (a : ℕ) → 1 ≤ a → a < l.agent
      → IsOrderly (caller_of l.fn.platform a) → IsOrderly (caller_of l.platform a);
  others : (a : ℕ) → l.agent ≤ a → caller_of l.platform a ≡ caller_of l.fn.platform a;
}
